use Rattle.std.proofs.Common.{◌≤◌, ◌<◌, ◌-◌}
use Rattle.index_leaves.proofs.BracketLemmas.{IsBracket}
use Rattle.index_leaves.proofs.leaf.search.Given as goal

-- the entry stands between low and high, if it is there, and the next look is there too
abbrev pub invariant-loop-low : goal.invariant-loop-low
invariant-loop-low g l = record {
  bracket : IsBracket l.entries.entries l.sought l.low l.high;
  from_low : l.low < l.high → l.low ≤ l.place;
  to_high : l.low < l.high → l.place < l.high;
}

abbrev pub decreases-loop-low : goal.decreases-loop-low
decreases-loop-low g l = l.high - l.low
