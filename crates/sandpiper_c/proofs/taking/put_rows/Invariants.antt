use Rattle.std.proofs.Common.{◌≡◌, take}
use Rattle.tuple_header.specs.Places.{places_with}
use Rattle.sandpiper_c.proofs.taking.put_rows.Given as goal

abbrev pub invariant-loop-number : goal.invariant-loop-number
invariant-loop-number l = l.places ≡ places_with (take l.number l.rows) l.fn.places
