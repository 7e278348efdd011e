use Rattle.std.proofs.Common.{rules, ◌≡◌, length, set, sym, ap, ◌∙◌, subst}
use Rattle.page_slots.specs.View.{PageView}
use Rattle.heap_pages.specs.View.{PagesView, with_page}
use Rattle.prune.specs.Actions.{CanApply, applied}
use Rattle.heap_write.specs.Heap.{HeapView, page_on}
use Rattle.heap_write.specs.Steps.{with_applied}
use Rattle.heap_write.proofs.PageLemmas.{page-at}
use Rattle.heap_write.proofs.HintLemmas.{hints-applied}
use Rattle.heap_write.proofs.heap.HeapState.do_actions.Goals as goal

pub invariant_of-self : goal.invariant_of-self
invariant_of-self c =
    let w = c.self.inside.statuses in
    let n = c.args.number in
    let pages = c.self.inside.pages.pages in
    let actions = c.args.actions.now in
    let e = c.edit.ensures.edits in
    let done : e.1 ≡ applied actions e.0 = search rules in
    let can : CanApply (length e.0.slots) actions =
    subst (λ (p : PageView). CanApply (length p.slots) actions) (page-at pages n e.0 e.2)
    (subst (λ (h : HeapView). CanApply (length (page_on h n).slots) actions) (sym c.self.view_is) c.requires.can_apply) in (
      c.self.invariant.0,
      hints-applied w pages c.edit.new.self.pages c.self.inside.hints.pages n actions e.0 e.2 (ap (λ (p : PagesView). p.pages) e.4 ∙ ap (λ (p : PageView). set pages n p) done) can c.self.invariant.1,
    )

pub returns : goal.returns
returns c =
    let e = c.edit.ensures.edits in
    let n = c.args.number in
    let pages = c.self.inside.pages in
    let actions = c.args.actions.now in
    let done : e.1 ≡ applied actions e.0 = search rules in
    let after : HeapView = record { pages = c.edit.new.self; statuses = c.self.inside.statuses; indexes = c.self.inside.indexes; max_pages = c.self.inside.max_pages } in
    subst (λ (h : HeapView). after ≡ with_applied h n actions) c.self.view_is
    (ap (λ (p : PagesView). record after { pages = p }) (e.4 ∙ ap (λ (page : PageView). with_page pages n page) (done ∙ ap (applied actions) (sym (page-at pages.pages n e.0 e.2)))))
