use Rattle.std.proofs.Common.{◌≡◌, Some, sym, ap, ◌∙◌, subst, slice_get}
use Rattle.heap_write.specs.Heap.{HeapView}
use Rattle.session_looks.proofs.ShownLemmas.{plan-there}
use Rattle.session_looks.proofs.explaining.plan.Goals as goal

pub returns-in-Some : goal.returns-in-Some
returns-in-Some c =
    plan-there c.args.engine.now c.statuses.result.now c.horizon-horizon.result.0 c.args.page c.in-Some.page.now c.plan.result
    (c.statuses.ensures ∙ ap (λ (h : HeapView). h.statuses) c.heap-heap.ensures) c.horizon-horizon.ensures
    (subst (λ (h : HeapView). slice_get h.pages.pages c.args.page ≡ Some c.in-Some.page.now) c.heap-heap.ensures (sym c.in-Some.ensures)) c.plan.ensures.change c.plan.ensures.exact
