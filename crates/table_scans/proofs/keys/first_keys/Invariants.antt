use Rattle.table_scans.specs.Scans.{sight_of}
use Rattle.table_scans.proofs.KeyLemmas.{HasMetKeys}
use Rattle.table_scans.proofs.keys.first_keys.Given as goal

abbrev pub invariant-loop : goal.invariant-loop
invariant-loop l = HasMetKeys (sight_of l.heap l.reader) l.fn.range l.left l.counter l.keys.items
