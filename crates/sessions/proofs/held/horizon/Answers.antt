use Rattle.std.proofs.Common.{sym}
use Rattle.sessions.proofs.Taking.{none-unless}
use Rattle.sessions.proofs.Holding.{held-idle, held-open}
use Rattle.sessions.proofs.held.horizon.Goals as goal
use Rattle.sessions.proofs.held.horizon.Goals.{in-Some, in_default}

pub loop-session-preserved : goal.loop-session-preserved
loop-session-preserved c = elim c.match-session.branch [
  | in-Some w ↦ rw w.horizon-is (held-open c.args.next.0 c.args.sessions.now c.loop-session.session-index c.loop-session.horizon.0 w.hold_back-horizon.result.0 c.session-item.result w.in-Some.session
      c.loop-session-test.true (sym c.session-item.is) w.in-Some.is w.hold_back-horizon.ensures c.loop-session.invariant)
  | in_default w ↦ rw w.horizon-is (held-idle c.args.next.0 c.args.sessions.now c.loop-session.session-index c.loop-session.horizon.0 c.session-item.result
      c.loop-session-test.true (sym c.session-item.is) (none-unless c.session-item.result w.in_default.not-Some) c.loop-session.invariant)
]
