use Rattle.table_scans.specs.Scans.{sight_of}
use Rattle.table_scans.proofs.TakeLemmas.{HasGathered}
use Rattle.table_scans.proofs.taking.rows_on.Given as goal

abbrev pub invariant-loop-slot : goal.invariant-loop-slot
invariant-loop-slot l = HasGathered (sight_of l.heap l.reader) l.fn.from l.slot l.slots l.rows.items
