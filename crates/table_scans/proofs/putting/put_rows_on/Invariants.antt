use Rattle.std.specs.Prelude.{IfSome}
use Rattle.visibility.specs.Reading.{IsReadBy}
use Rattle.table_scans.specs.Scans.{sight_of}
use Rattle.table_scans.proofs.PutLemmas.{HasPutOn}
use Rattle.table_scans.proofs.putting.put_rows_on.Given as goal

abbrev pub invariant-loop-slot : goal.invariant-loop-slot
invariant-loop-slot l = HasPutOn (sight_of l.heap l.reader) l.fn.from l.fn.places l.slot l.end l.count l.places
    × IfSome l.counted (λ x. IsReadBy l.reader x.0)
