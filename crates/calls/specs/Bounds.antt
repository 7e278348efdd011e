-- The numbers of a step are of their types.
use Rattle.std.proofs.Common.{SFits}
use Rattle.std.specs.Int.{w128}
use Rattle.calls.specs.declared.step.Step.{Step}
use Rattle.calls.specs.declared.step.Step.TheVariants as step

-- the bounds of a cursor
abbrev pub HasBounds : Step → Type 0
HasBounds (step.OpenIndex s index low high) = SFits w128 low × SFits w128 high
HasBounds (step.OpenKeys s low high) = SFits w128 low × SFits w128 high
HasBounds step = Unit {0}
