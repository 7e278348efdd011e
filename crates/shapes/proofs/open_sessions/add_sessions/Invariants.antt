use Rattle.session_steps.specs.State.{session_at}
use Rattle.shapes.specs.Shapes.{Adds, ArePieces, IsSessionPiece}
use Rattle.shapes.proofs.open_sessions.add_sessions.Given as goal

abbrev pub invariant-loop-s : goal.invariant-loop-s
invariant-loop-s l = Adds (ArePieces (λ s. IsSessionPiece l.engine s (session_at l.engine.engine.core s)) l.s) l.initial.shapes.items l.shapes.items
