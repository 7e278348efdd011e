use Rattle.std.proofs.Common.{ℕ, ◌<◌}
use Rattle.session_looks.specs.Holders.{HasId}
use Rattle.session_looks.proofs.holder.owner_of.Given as goal

-- no session that was passed has the id
abbrev pub invariant-loop-s : goal.invariant-loop-s
invariant-loop-s l = (s : ℕ) → s < l.s → ¬ HasId l.engine l.fn.x.0 s
