use Rattle.std.proofs.Common.{◌≡◌, ◌≤◌, ◌+◌, ◌++◌, length, reverse, vec_capacity}
use Rattle.index_nodes.proofs.branch.move_half.Given as goal

-- what has left the one stands in the other, the first first
abbrev pub invariant-loop : goal.invariant-loop
invariant-loop g l = record {
  nodes : l.lower.items ++ reverse l.upper.items ≡ l.fn.lower.items;
  moved : length l.lower.items ≡ l.counter;
  left : length l.upper.items + l.counter ≡ 128;
  capacity : 128 ≤ vec_capacity l.lower;
  capacity_too : vec_capacity l.fn.lower ≤ vec_capacity l.upper;
}
