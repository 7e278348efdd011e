use Rattle.sessions.proofs.Holding.{IsHeldAt}
use Rattle.sessions.proofs.held.horizon.Given as goal

abbrev pub invariant-loop-session : goal.invariant-loop-session
invariant-loop-session l = IsHeldAt l.fn.next.0 l.sessions l.session-index l.horizon.0
