use Rattle.std.proofs.Common.{ℕ, ◌<◌}
use Rattle.table_indexes.specs.Indexes.{IsInUse}
use Rattle.table_indexes.proofs.indexes.Indexes.next_after.Given as goal

abbrev pub invariant-loop-next : goal.invariant-loop-next
invariant-loop-next l = (n : ℕ) → l.number < n → n < l.next → ¬ IsInUse l.self n
