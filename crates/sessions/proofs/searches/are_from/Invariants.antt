use Rattle.std.proofs.Common.{ℕ, ◌<◌, get_or}
use Rattle.xid_circle.specs.Circle.{Precedes}
use Rattle.sessions.proofs.searches.are_from.Given as goal

abbrev pub invariant-loop-x : goal.invariant-loop-x
invariant-loop-x l = (k : ℕ) → k < l.x-index → ¬ Precedes (get_or l.ids k (record { 0 = 0 })).0 l.cutoff.0
