use Rattle.std.proofs.Common.{◌-◌}
use Rattle.dead_places.proofs.PlaceLemmas.{IsAround}
use Rattle.dead_places.proofs.dead_set.search.Given as goal

-- the place stands between low and high, if it is there
abbrev pub invariant-loop-low : goal.invariant-loop-low
invariant-loop-low l = IsAround l.tids l.sought l.low l.high

abbrev pub decreases-loop-low : goal.decreases-loop-low
decreases-loop-low l = l.high - l.low
