use Rattle.std.proofs.Common.{None}
use Rattle.index_lookup.specs.Pages.{page_slots_of}
use Rattle.visibility.specs.Reading.{IsSeenBy}
use Rattle.index_lookup.specs.Looking.{FetchedAt}
use Rattle.index_lookup.proofs.Turns.{Looked, entry_of}
use Rattle.index_lookup.proofs.lookup.place_from.Given as goal

abbrev pub invariant-loop : goal.invariant-loop
invariant-loop l = Looked l.table.index.now.entries l.first.value l.first.key (λ e. FetchedAt l.reader.statuses.now (IsSeenBy l.reader) (page_slots_of l.table.pages.now) e.tid None) l.counter (entry_of l.next)
