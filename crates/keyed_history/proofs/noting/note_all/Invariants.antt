use Rattle.std.proofs.Common.{take}
use Rattle.keyed_history.specs.Places.{HaveNoted}
use Rattle.keyed_history.proofs.noting.note_all.Given as goal

abbrev pub invariant-loop-i : goal.invariant-loop-i
invariant-loop-i l = HaveNoted l.fn.spots.places l.spots.places l.n (take l.i l.writes)
