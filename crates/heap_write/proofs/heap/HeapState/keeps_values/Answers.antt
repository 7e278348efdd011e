use Rattle.std.proofs.Common.{◌≡◌, None, slice_get, subst, sym, refl}
use Rattle.heap_write.specs.Heap.{HeapView}
use Rattle.heap_write.proofs.PageLemmas.{keeps-nothing}
use Rattle.heap_write.proofs.heap.HeapState.keeps_values.Goals as goal

pub returns-in-None : goal.returns-in-None
returns-in-None c =
    let none = subst (λ (h : HeapView). slice_get h.pages.pages c.args.place.page ≡ None) c.self.view_is (sym c.in-None.ensures) in
    (λ yes. keeps-nothing c.args.self.now c.args.place c.args.row.now none, λ keeps. refl)
