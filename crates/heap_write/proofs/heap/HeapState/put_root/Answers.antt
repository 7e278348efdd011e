use Rattle.std.proofs.Common.{ℤ, sym, subst}
use Rattle.tuple_header.specs.IndexValue.{value_in}
use Rattle.table_indexes.specs.Indexes.{index_at, HasEntry}
use Rattle.table_indexes.proofs.Columns.{value-without_body}
use Rattle.heap_write.specs.Heap.{HeapView}
use Rattle.heap_write.proofs.HintLemmas.{hints-root, hints-covered}
use Rattle.heap_write.proofs.heap.HeapState.put_root.Goals as goal

pub enter-requires-clause-room : goal.enter-requires-clause-room
enter-requires-clause-room c = λ n.
    let row = c.args.row.now in
    subst (λ (v : ℤ). HasEntry (index_at c.self.inside.indexes n) v row.key) (sym (value-without_body n row))
    (subst (λ (h : HeapView). HasEntry (index_at h.indexes n) (value_in n row) row.key) (sym c.self.view_is) (c.requires.entries n))

pub invariant_of-self : goal.invariant_of-self
invariant_of-self c =
    let w = c.self.inside.statuses in
    let hints = c.self.inside.hints.pages in
    let kept = c.expect_root.new.hints.pages in
    let placed = c.put_version-tid in
    let root = hints-root w c.self.inside.pages placed.new.pages c.args.updated c.args.x.0 c.args.row.now placed.result.page hints kept placed.ensures.puts c.expect_root.ensures c.self.invariant.1 in
    (c.self.invariant.0, hints-covered w placed.new.pages.pages kept c.cover.new.self.pages c.cover.ensures.each root)
