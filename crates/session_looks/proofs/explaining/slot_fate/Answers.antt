use Rattle.std.proofs.Common.{◌≡◌, Some, sym, ap, ◌∙◌, subst, slice_get}
use Rattle.heap_write.specs.Heap.{HeapView}
use Rattle.session_looks.proofs.ShownLemmas.{fate-there}
use Rattle.session_looks.proofs.explaining.slot_fate.Goals as goal

pub returns-in-Some : goal.returns-in-Some
returns-in-Some c =
    fate-there c.args.engine.now c.statuses.result.now c.horizon-horizon.result.0 c.args.page c.args.slot c.in-Some.page.now c.slot_fate.result
    (c.statuses.ensures ∙ ap (λ (h : HeapView). h.statuses) c.heap-heap.ensures) c.horizon-horizon.ensures
    (subst (λ (h : HeapView). slice_get h.pages.pages c.args.page ≡ Some c.in-Some.page.now) c.heap-heap.ensures (sym c.in-Some.ensures)) c.slot_fate.ensures
