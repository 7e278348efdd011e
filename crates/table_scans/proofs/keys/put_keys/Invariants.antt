use Rattle.table_scans.specs.Scans.{sight_of}
use Rattle.table_scans.proofs.KeyLemmas.{HasPutKeys}
use Rattle.table_scans.proofs.keys.put_keys.Given as goal

abbrev pub invariant-loop-count : goal.invariant-loop-count
invariant-loop-count l = HasPutKeys (sight_of l.heap l.reader) l.fn.range l.left l.count l.fn.places l.places
