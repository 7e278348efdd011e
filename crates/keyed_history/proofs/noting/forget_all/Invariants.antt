use Rattle.std.proofs.Common.{take}
use Rattle.keyed_history.specs.Places.{HaveForgotten}
use Rattle.keyed_history.proofs.noting.forget_all.Given as goal

abbrev pub invariant-loop-i : goal.invariant-loop-i
invariant-loop-i l = HaveForgotten l.fn.spots.places l.spots.places l.n (take l.i l.writes)
