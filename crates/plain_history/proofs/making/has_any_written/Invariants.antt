use Rattle.std.proofs.Common.{◌≡◌, ℕ, ◌<◌, false}
use Rattle.plain_history.specs.Plain.{has_session_written, session_in}
use Rattle.plain_history.proofs.making.has_any_written.Given as goal

-- no session so far has written
abbrev pub invariant-loop-s : goal.invariant-loop-s
invariant-loop-s l = (s : ℕ) → s < l.s → has_session_written (session_in l.sessions s) ≡ false
