use Rattle.table_indexes.proofs.Columns.{AgreeUpTo}
use Rattle.table_indexes.proofs.indexes.Indexes.same_values.Given as goal

abbrev pub invariant-loop-c : goal.invariant-loop-c
invariant-loop-c l = AgreeUpTo l.self.indexes l.old l.new l.c
