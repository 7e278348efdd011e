use Rattle.std.proofs.Common.{◌≡◌, ◌∙◌, ◌<◌, Some, List, length, set, slice_get, sym, ap, arith}
use Rattle.std.proofs.lemmas.List.{length-set}
use Rattle.page_slots.specs.View.{PageView}
use Rattle.space_maps.specs.declared.mark.Mark.{Mark}
use Rattle.space_maps.specs.View.{says_visible}
use Rattle.heap_pages.specs.View.{PagesView, free_space_bytes}
use Rattle.heap_pages.proofs.FirstLemmas.{read_at}
use Rattle.heap_pages.proofs.FreeSpaceLemmas.{flagged}
use Rattle.heap_pages.proofs.pages.Pages.note.Goals as goal

is_flagged : (c : goal.After-note) → c.set_flag.new.self ≡ record c.index_mut.result.now { flag = c.is_visible.result }
is_flagged c = c.set_flag.ensures ∙ ap (λ (page : PageView). record page { flag = c.is_visible.result }) c.page_mut.ensures.value

pub invariant_of-self : goal.invariant_of-self
invariant_of-self c =
    let pages = c.self.inside.pages.items in
    let n = c.args.number in
    let was = c.index_mut.result.now in
    let within : n < length pages = omega (arith, c.requires, ap (λ (p : PagesView). length p.pages) c.self.view_is) in
    let at : slice_get pages n ≡ Some was = read_at pages n was within c.index_mut.ensures.value in
    let long = length-set pages n c.set_flag.new.self in record {
      few = omega (arith, long, c.self.invariant.few);
      bytes = flagged c.self.inside.free.bytes pages n was c.is_visible.result c.self.invariant.bytes at ∙ ap (λ (page : PageView). free_space_bytes (set pages n page)) (sym (is_flagged c));
      pages_spare = c.self.invariant.pages_spare;
      free_spare = c.self.invariant.free_spare;
      marked = omega (arith, ap length c.note.ensures.marks, length-set c.self.inside.marks.marks n c.args.mark, long, c.self.invariant.marked);
      marks_spare = omega (arith, c.note.ensures.spare, c.self.invariant.marks_spare);
    }

pub returns : goal.returns
returns c =
    let pages = c.self.inside.pages.items in
    let n = c.args.number in
    let was = c.index_mut.result.now in
    let within : n < length pages = omega (arith, c.requires, ap (λ (p : PagesView). length p.pages) c.self.view_is) in
    let at : slice_get c.args.self.now.pages n ≡ Some was = ap (λ (p : PagesView). slice_get p.pages n) (sym c.self.view_is) ∙ read_at pages n was within c.index_mut.ensures.value in
    let flagged_as : PageView = record was { flag = says_visible c.args.mark } in (
      was,
      at,
      ap (λ (page : PageView). record { pages = set pages n page; marks = c.note.new.self.marks; spare = c.self.inside.spare }) (is_flagged c ∙ ap (λ f. record was { flag = f }) c.is_visible.ensures)
          ∙ ap (λ (m : List Mark). record { pages = set pages n flagged_as; marks = m; spare = c.self.inside.spare }) c.note.ensures.marks
          ∙ ap (λ (p : PagesView). record { pages = set p.pages n flagged_as; marks = set p.marks n c.args.mark; spare = p.spare }) c.self.view_is,
    )
