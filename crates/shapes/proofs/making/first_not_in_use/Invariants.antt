use Rattle.std.proofs.Common.{◌≡◌, ◌<◌, ℕ, Some, slice_get}
use Rattle.shapes.specs.Shapes.{IsNotInUse}
use Rattle.shapes.proofs.making.first_not_in_use.Given as goal

-- the pages that were passed are in use
abbrev pub invariant-loop-number : goal.invariant-loop-number
invariant-loop-number l = (i q : ℕ) → i < l.number-index → slice_get l.numbers i ≡ Some q → ¬ IsNotInUse l.engine.engine.core q
