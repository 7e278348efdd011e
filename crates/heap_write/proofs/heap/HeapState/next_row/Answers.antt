use Rattle.std.proofs.Common.{Option, [], subst}
use Rattle.std.specs.Prelude.{unwrap_or}
use Rattle.root_index.specs.View.{IndexView}
use Rattle.visibility.specs.Reading.{IsSeenBy}
use Rattle.table_indexes.specs.Indexes.{entries_of, entries_in}
use Rattle.heap_write.specs.Heap.{HeapView, slots_of}
use Rattle.index_lookup.specs.Walking.{NextRow}
use Rattle.heap_write.specs.contracts.heap.HeapState.{the_view}
use Rattle.heap_write.proofs.heap.HeapState.next_row.Goals as goal

pub returns-in-Some : goal.returns-in-Some
returns-in-Some c =
    let answer = c.next_row.result in
    let h = the_view c.self.inside in
    let w = c.args.reader.now.statuses.now in
    let seen = IsSeenBy c.args.reader.now in
    let found = subst (λ (o : Option IndexView). NextRow w seen (slots_of h) (unwrap_or (entries_of o) []) c.args.span.now answer) c.in-Some.ensures c.next_row.ensures in
    subst (λ (v : HeapView). NextRow w seen (slots_of v) (entries_in v.indexes c.args.span.now.index) c.args.span.now answer)
    c.self.view_is found
