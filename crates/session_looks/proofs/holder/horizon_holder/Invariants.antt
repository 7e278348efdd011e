use Rattle.std.proofs.Common.{ℕ, ◌<◌}
use Rattle.session_looks.specs.Holders.{IsNoHolder}
use Rattle.session_looks.proofs.holder.horizon_holder.Given as goal

-- no session that was passed holds the horizon back
abbrev pub invariant-loop-session : goal.invariant-loop-session
invariant-loop-session l = (s : ℕ) → s < l.session → IsNoHolder l.engine s
