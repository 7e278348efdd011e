use Rattle.std.proofs.Common.{◌≡◌, length}
use Rattle.picture_layout.proofs.layout.spots_of.Given as goal

-- as many spots as shapes were passed
abbrev pub invariant-loop-shape : goal.invariant-loop-shape
invariant-loop-shape l = length l.spots.items ≡ l.shape-index
