use Rattle.std.proofs.Common.{◌≡◌, Some}
use Rattle.tuple_header.specs.Version.{Version}
use Rattle.session_steps.specs.State.{session_at}
use Rattle.shapes.specs.Shapes.{Adds, ArePieces, IsDotPiece, version_of_place}
use Rattle.shapes.proofs.dots.add_dots.Given as goal

abbrev pub invariant-loop-s : goal.invariant-loop-s
invariant-loop-s l = (t : Version) → version_of_place l.engine.engine.core l.place ≡ Some t
    → Adds (ArePieces (λ s. IsDotPiece l.engine.engine.core l.place t s (session_at l.engine.engine.core s)) l.s) l.initial.shapes.items l.shapes.items
