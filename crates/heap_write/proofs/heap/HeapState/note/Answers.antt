use Rattle.std.proofs.Common.{◌≡◌, ◌<◌, length, slice_get, None, sym, ap, ◌∙◌, subst}
use Rattle.std.specs.Option.{option_copied}
use Rattle.std.proofs.lemmas.Option.{none-some, slice_get-get_or}
use Rattle.heap_pages.specs.View.{PagesView}
use Rattle.heap_write.specs.Heap.{HeapView, unused_page}
use Rattle.heap_write.proofs.HintLemmas.{hints-kept}
use Rattle.heap_write.proofs.heap.HeapState.note.Goals as goal

pub invariant_of-self : goal.invariant_of-self
invariant_of-self c =
    let e = c.note.ensures in (
      c.self.invariant.0,
      hints-kept c.self.inside.statuses c.self.inside.pages.pages c.note.new.self.pages c.self.inside.hints.pages c.args.number e.0 _ e.1 (ap (λ (p : PagesView). p.pages) e.2) (λ turn dies. dies) (λ doubts true. true) c.self.invariant.1,
    )

pub returns-in_default : goal.returns-in_default
returns-in_default c =
    let n = c.args.number in
    let pages = c.self.inside.pages.pages in
    let within : n < length pages = subst (λ (h : HeapView). n < length h.pages.pages) (sym c.self.view_is) c.requires.within in
    let none : slice_get pages n ≡ None = sym c.page.ensures ∙ ap option_copied c.in_default.is in
    absurd (none-some _ (sym none ∙ slice_get-get_or pages n unused_page within))
