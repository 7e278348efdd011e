use Rattle.std.proofs.Common.{List, ℤ, pos, subst}
use Rattle.index_entries.specs.declared.entry.Entry.{Entry}
use Rattle.visibility.specs.Reading.{IsSeenBy, IsOtherWriterFor, IsNewerCommitFor}
use Rattle.index_lookup.specs.Looking.{FirstPlace, IsIdOf}
use Rattle.table_indexes.specs.Indexes.{entries_in}
use Rattle.heap_write.specs.Heap.{HeapView, slots_of}
use Rattle.heap_write.specs.contracts.heap.HeapState.{the_view}
use Rattle.heap_write.proofs.KeyLemmas.{read-back}
use Rattle.heap_write.proofs.heap.HeapState.check_write.Goals as goal

pub returns-clause-place : goal.returns-clause-place
returns-clause-place c =
    let P : HeapView → List Entry → ℤ → Type 0 = λ h entries value. FirstPlace c.args.reader.now.statuses.now (IsSeenBy c.args.reader.now) (slots_of h) entries value c.args.key c.check_write.result.0.place in
    let v = the_view c.self.inside in
    let at = read-back c.args.key c.from-value.result c.ranges.key.fits c.from-value.ensures in
    subst (λ h. P h (entries_in h.indexes 0) (pos c.args.key)) c.self.view_is
    (subst (λ entries. P v entries (pos c.args.key)) c.by_key.ensures.entries (subst (λ value. P v c.by_key.result.now.entries value) at c.check_write.ensures.place))

pub returns-clause-newer_commit : goal.returns-clause-newer_commit
returns-clause-newer_commit c =
    let P : HeapView → List Entry → ℤ → Type 0 = λ h entries value. IsIdOf c.args.reader.now.statuses.now (IsNewerCommitFor c.args.reader.now) (slots_of h) entries value c.args.key c.check_write.result.0.newer_commit in
    let v = the_view c.self.inside in
    let at = read-back c.args.key c.from-value.result c.ranges.key.fits c.from-value.ensures in
    subst (λ h. P h (entries_in h.indexes 0) (pos c.args.key)) c.self.view_is
    (subst (λ entries. P v entries (pos c.args.key)) c.by_key.ensures.entries (subst (λ value. P v c.by_key.result.now.entries value) at c.check_write.ensures.newer_commit))

pub returns-clause-other_writer : goal.returns-clause-other_writer
returns-clause-other_writer c =
    let P : HeapView → List Entry → ℤ → Type 0 = λ h entries value. IsIdOf c.args.reader.now.statuses.now (IsOtherWriterFor c.args.reader.now) (slots_of h) entries value c.args.key c.check_write.result.0.other_writer in
    let v = the_view c.self.inside in
    let at = read-back c.args.key c.from-value.result c.ranges.key.fits c.from-value.ensures in
    subst (λ h. P h (entries_in h.indexes 0) (pos c.args.key)) c.self.view_is
    (subst (λ entries. P v entries (pos c.args.key)) c.by_key.ensures.entries (subst (λ value. P v c.by_key.result.now.entries value) at c.check_write.ensures.other_writer))
