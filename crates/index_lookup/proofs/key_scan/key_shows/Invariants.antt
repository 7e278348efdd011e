use Rattle.visibility.specs.Reading.{IsSeenBy}
use Rattle.index_lookup.specs.Keys.{PlaceShows}
use Rattle.index_lookup.proofs.Turns.{Looked, entry_of}
use Rattle.index_lookup.proofs.key_scan.key_shows.Given as goal

abbrev pub invariant-loop : goal.invariant-loop
invariant-loop l = Looked l.table.index.now.entries l.first.value l.first.key (λ e. ¬ PlaceShows l.reader.statuses.now (IsSeenBy l.reader) l.table.pages.now e.tid) l.counter (entry_of l.next)
