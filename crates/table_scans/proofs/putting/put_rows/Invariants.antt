use Rattle.table_scans.specs.Scans.{sight_of}
use Rattle.table_scans.proofs.PutLemmas.{HasPutMet}
use Rattle.table_scans.proofs.putting.put_rows.Given as goal

abbrev pub invariant-loop-count : goal.invariant-loop-count
invariant-loop-count l = HasPutMet (sight_of l.heap l.reader) l.fn.range l.left l.count l.fn.places l.places
