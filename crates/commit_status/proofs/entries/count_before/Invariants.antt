use Rattle.std.proofs.Common.{◌≤◌, ◌<◌, ◌-◌, ◌≡◌, ℕ, length, Some, slice_get}
use Rattle.commit_status.specs.declared.entries.Child.{Child}
use Rattle.commit_status.proofs.entries.count_before.Given as goal

-- all before `low` stand before the place, and none from `high` on
abbrev pub invariant-halving : goal.invariant-halving
invariant-halving l = record {
  ordered : l.low ≤ l.high;
  fits : l.high ≤ length l.children;
  before : (i : ℕ) (c : Child) → i < l.low → slice_get l.children i ≡ Some c → c.place < l.place;
  behind : (i : ℕ) (c : Child) → l.high ≤ i → slice_get l.children i ≡ Some c → l.place ≤ c.place;
}

abbrev pub decreases-halving : goal.decreases-halving
decreases-halving l = l.high - l.low
