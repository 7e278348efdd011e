use Rattle.std.proofs.Common.{◌≡◌, ◌∙◌, ◌<◌, Some, length, slice_get, sym, ap, refl, arith}
use Rattle.std.specs.Fn.{FnOnceReturnsAtMut}
use Rattle.std.proofs.lemmas.List.{length-set}
use Rattle.heap_pages.specs.View.{PagesView, with_page}
use Rattle.heap_pages.proofs.FirstLemmas.{read_at}
use Rattle.heap_pages.proofs.FreeSpaceLemmas.{noted}
use Rattle.heap_pages.proofs.pages.Pages.edit.Goals as goal

pub invariant_of-self : goal.invariant_of-self
invariant_of-self g c =
    let pages = c.self.inside.pages.items in
    let long = length-set pages c.args.number c.change-result.new.arg2 in record {
      few = omega (arith, long, c.self.invariant.few);
      bytes = c.note.ensures.bytes ∙ noted c.self.inside.free.bytes pages c.args.number c.free_byte.result c.change-result.new.arg2 c.self.invariant.bytes c.free_byte.ensures;
      pages_spare = c.self.invariant.pages_spare;
      free_spare = omega (arith, c.self.invariant.free_spare, c.note.ensures.spare);
      marked = omega (arith, long, c.self.invariant.marked);
      marks_spare = c.self.invariant.marks_spare;
    }

pub returns : goal.returns
returns g c =
    let pages = c.self.inside.pages.items in
    let n = c.args.number in
    let was = c.index_mut.result.now in
    let is = c.change-result.new.arg2 in
    let within : n < length pages = omega (arith, c.requires.within, ap (λ (p : PagesView). length p.pages) c.self.view_is) in
    let at : slice_get c.args.self.now.pages n ≡ Some was = ap (λ (p : PagesView). slice_get p.pages n) (sym c.self.view_is) ∙ read_at pages n was within c.index_mut.ensures.value in
    let gave : FnOnceReturnsAtMut g.F.FnOnce c.args.change was c.change-result.result is = record { shown = _; shows = c.page_mut-page.ensures.value; left = _; met = c.change-result.ensures; leaves = refl } in
    record { edits = (was, is, at, gave, ap (λ (p : PagesView). with_page p n is) c.self.view_is) }
