use Rattle.std.proofs.Common.{None}
use Rattle.index_lookup.specs.Pages.{page_slots_of}
use Rattle.visibility.specs.Reading.{IsSeenBy}
use Rattle.index_lookup.specs.Looking.{FirstFound}
use Rattle.index_lookup.proofs.WalkLemmas.{Walked}
use Rattle.index_lookup.proofs.index_scan.next_row.Given as goal

abbrev pub invariant-loop : goal.invariant-loop
invariant-loop l = Walked l.table.index.now.entries (λ value key. FirstFound l.reader.statuses.now (IsSeenBy l.reader) (page_slots_of l.table.pages.now) l.table.index.now.entries value key None) l.span l.left l.counter
