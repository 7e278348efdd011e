use Rattle.std.proofs.Common.{ℕ, ◌<◌, ◌≤◌, length}
use Rattle.table_indexes.specs.Indexes.{entries_in}
use Rattle.session_core.proofs.engine.Engine.most_entries.Given as goal

-- no index of a lower number has more
abbrev pub invariant-loop-number : goal.invariant-loop-number
invariant-loop-number l = (i : ℕ) → i < l.number → length (entries_in l.fn.self.engine.core.heap.indexes i) ≤ l.most
