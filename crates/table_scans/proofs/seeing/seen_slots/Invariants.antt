use Rattle.table_scans.proofs.SeenLemmas.{HasNoted}
use Rattle.table_scans.proofs.seeing.seen_slots.Given as goal

abbrev pub invariant-loop-slot : goal.invariant-loop-slot
invariant-loop-slot l = HasNoted l.page l.reader l.slot l.slots l.seen.items
