use Rattle.visibility.specs.Reading.{IsSeenBy}
use Rattle.index_lookup.specs.Keys.{KeyShows}
use Rattle.index_lookup.proofs.WalkLemmas.{Walked}
use Rattle.index_lookup.proofs.key_scan.next_key.Given as goal

abbrev pub invariant-loop : goal.invariant-loop
invariant-loop l = Walked l.table.index.now.entries (λ value key. ¬ KeyShows l.reader.statuses.now (IsSeenBy l.reader) l.table.pages.now l.table.index.now.entries value key) l.span l.left l.counter
