use Rattle.shapes.specs.Shapes.{IsSlotPiece, place_behind}
use Rattle.shapes.proofs.Adding.{SoFar}
use Rattle.shapes.proofs.pages.add_slots.Given as goal

abbrev pub invariant-loop-i : goal.invariant-loop-i
invariant-loop-i l = SoFar (λ e i. IsSlotPiece e.engine.core (place_behind l.number i)) l.fn.engine l.engine l.i l.initial.shapes.items l.shapes.items
