use Rattle.session_steps.specs.State.{session_at}
use Rattle.shapes.specs.Shapes.{IsSessionPiece}
use Rattle.shapes.proofs.Adding.{one-more}
use Rattle.shapes.proofs.open_sessions.add_sessions.Goals as goal

pub loop-s-preserved : goal.loop-s-preserved
loop-s-preserved c =
    one-more (λ s. IsSessionPiece c.args.engine.now s (session_at c.args.engine.now.engine.core s)) c.loop-s.s c.args.shapes.now.items c.loop-s.shapes.items
    c.add_session.new.shapes.items c.loop-s.invariant c.in_ok-add_session.ensures
