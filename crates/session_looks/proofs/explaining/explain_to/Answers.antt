use Rattle.std.proofs.Common.{◌≡◌, Some, None, sym, subst, slice_get}
use Rattle.heap_write.specs.Heap.{HeapView}
use Rattle.session_looks.proofs.ShownLemmas.{shown-nowhere}
use Rattle.session_looks.proofs.explaining.explain_to.Goals as goal

pub explain_on-requires : goal.explain_on-requires
explain_on-requires c = subst (λ (h : HeapView). slice_get h.pages.pages c.args.place.page ≡ Some c.in-Some.page.now) c.heap.ensures (sym c.in-Some.ensures)

pub returns-in-None : goal.returns-in-None
returns-in-None c =
    shown-nowhere c.args.engine.now c.args.session.now c.args.place c.args.n
    (subst (λ (h : HeapView). slice_get h.pages.pages c.args.place.page ≡ None) c.heap.ensures (sym c.in-None.ensures))
