use Rattle.std.proofs.Common.{◌≡◌, ◌∙◌, ◌<◌, Some, false, List, length, set, slice_get, sym, ap, refl, arith}
use Rattle.std.specs.Fn.{FnOnceReturnsAtMut}
use Rattle.std.proofs.lemmas.List.{length-set}
use Rattle.page_slots.specs.View.{PageView}
use Rattle.space_maps.specs.declared.mark.Mark.{Mark}
use Rattle.space_maps.specs.declared.mark.Mark.TheVariants.{Nothing}
use Rattle.heap_pages.specs.View.{PagesView}
use Rattle.heap_pages.proofs.FirstLemmas.{read_at}
use Rattle.heap_pages.proofs.FreeSpaceLemmas.{noted}
use Rattle.heap_pages.proofs.pages.Pages.write.Goals as goal

pub invariant_of-self : goal.invariant_of-self
invariant_of-self g c =
    let pages = c.self.inside.pages.items in
    let long = length-set pages c.args.number c.change-result.new.arg2 in record {
      few = omega (arith, long, c.self.invariant.few);
      bytes = c.note-2.ensures.bytes ∙ noted c.self.inside.free.bytes pages c.args.number c.free_byte.result c.change-result.new.arg2 c.self.invariant.bytes c.free_byte.ensures;
      pages_spare = c.self.invariant.pages_spare;
      free_spare = omega (arith, c.self.invariant.free_spare, c.note-2.ensures.spare);
      marked = omega (arith, ap length {y = set c.self.inside.marks.marks c.args.number Nothing} c.note.ensures.marks, length-set c.self.inside.marks.marks c.args.number Nothing, long, c.self.invariant.marked);
      marks_spare = omega (arith, c.note.ensures.spare, c.self.invariant.marks_spare);
    }

pub returns : goal.returns
returns g c =
    let pages = c.self.inside.pages.items in
    let n = c.args.number in
    let was = c.index_mut.result.now in
    let is = c.change-result.new.arg2 in
    let within : n < length pages = omega (arith, c.requires.within, ap (λ (p : PagesView). length p.pages) c.self.view_is) in
    let at : slice_get c.args.self.now.pages n ≡ Some was = ap (λ (p : PagesView). slice_get p.pages n) (sym c.self.view_is) ∙ read_at pages n was within c.index_mut.ensures.value in
    let gave : FnOnceReturnsAtMut g.F.FnOnce c.args.change (record was { flag = false }) c.change-result.result is =
    record { shown = _; shows = c.set_flag.ensures ∙ ap (λ (p : PageView). record p { flag = false }) c.page_mut-target.ensures.value; left = _; met = c.change-result.ensures; leaves = refl } in
    let same = ap (λ (marks : List Mark). record { pages = set pages n is; marks = marks; spare = c.self.inside.spare }) c.note.ensures.marks
    ∙ ap (λ (p : PagesView). record { pages = set p.pages n is; marks = set p.marks n Nothing; spare = p.spare }) c.self.view_is in
    record { writes = (was, is, at, gave, same) }
