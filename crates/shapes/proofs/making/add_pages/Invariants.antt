use Rattle.shapes.specs.Shapes.{IsAskedPage}
use Rattle.shapes.proofs.Adding.{SoFar}
use Rattle.shapes.proofs.making.add_pages.Given as goal

abbrev pub invariant-loop-number : goal.invariant-loop-number
invariant-loop-number l = SoFar (λ e. IsAskedPage e.engine.core l.numbers) l.fn.engine l.engine l.number-index l.initial.shapes.items l.shapes.items
