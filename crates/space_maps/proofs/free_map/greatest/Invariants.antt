use Rattle.std.proofs.Common.{ℕ, ◌<◌, ◌≤◌, get_or}
use Rattle.space_maps.proofs.free_map.greatest.Given as goal

abbrev pub invariant-loop-number : goal.invariant-loop-number
invariant-loop-number l = (k : ℕ) → l.fn.from ≤ k → k < l.number → get_or l.bytes k 0 ≤ l.greatest
