use Rattle.std.proofs.Common.{ℕ, ◌<◌}
use Rattle.judge.specs.Handing.{StandsBefore}
use Rattle.judge.proofs.handing.are_apart.Given as goal

abbrev pub invariant-loop-i : goal.invariant-loop-i
invariant-loop-i l = (k : ℕ) → k < l.i → ¬ StandsBefore l.rows k
