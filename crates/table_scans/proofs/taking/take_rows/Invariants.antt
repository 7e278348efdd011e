use Rattle.table_scans.specs.Scans.{sight_of}
use Rattle.table_scans.proofs.TakeLemmas.{HasMet}
use Rattle.table_scans.proofs.taking.take_rows.Given as goal

abbrev pub invariant-loop : goal.invariant-loop
invariant-loop l = HasMet (sight_of l.heap l.reader) l.fn.range l.left l.counter l.rows.items
