use Rattle.std.proofs.Common.{◌≡◌, Some, None, sym, subst}
use Rattle.table_indexes.specs.Indexes.{index_at}
use Rattle.heap_write.specs.Heap.{HeapView}
use Rattle.session_looks.proofs.ShownLemmas.{next-in, next-nowhere}
use Rattle.session_looks.proofs.explaining.next_entry.Goals as goal

pub returns-in-Some : goal.returns-in-Some
returns-in-Some c =
    next-in c.args.engine.now.heap.indexes c.in-Some.index.now c.args.key c.args.after c.next_place.result
    (subst (λ (h : HeapView). index_at h.indexes 0 ≡ Some c.in-Some.index.now) c.heap.ensures (sym c.in-Some.ensures)) c.next_place.ensures

pub returns-in-None : goal.returns-in-None
returns-in-None c =
    next-nowhere c.args.engine.now.heap.indexes c.args.key c.args.after (subst (λ (h : HeapView). index_at h.indexes 0 ≡ None) c.heap.ensures (sym c.in-None.ensures))
