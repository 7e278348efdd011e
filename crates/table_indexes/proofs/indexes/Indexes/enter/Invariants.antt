use Rattle.std.proofs.Common.{◌+◌, ◌∷◌, ◌≡◌, Some}
use Rattle.table_indexes.specs.Indexes.{without_body, AreOfTheirKinds}
use Rattle.table_indexes.proofs.Columns.{Entered}
use Rattle.table_indexes.proofs.indexes.Indexes.enter.Given as goal

abbrev pub invariant-loop-c : goal.invariant-loop-c
invariant-loop-c l = record {
  entered : Entered (without_body l.fn.key l.cols) l.fn.place l.fn.self.indexes (Some l.self-inside.by_key ∷ l.self-inside.by_column) (l.c + 1);
  since : l.self-inside.since ≡ l.fn.self.since;
  kinds : AreOfTheirKinds l.self-inside.by_key l.self-inside.by_column;
}
