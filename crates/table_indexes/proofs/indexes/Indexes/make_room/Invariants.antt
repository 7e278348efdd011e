use Rattle.std.proofs.Common.{◌+◌, ◌∷◌, ◌≡◌, Some}
use Rattle.table_indexes.specs.Indexes.{AreOfTheirKinds}
use Rattle.table_indexes.proofs.Columns.{Reserved}
use Rattle.table_indexes.proofs.indexes.Indexes.make_room.Given as goal

abbrev pub invariant-loop-c : goal.invariant-loop-c
invariant-loop-c l = record {
  reserved : Reserved l.fn.row l.fn.self.indexes (Some l.self-inside.by_key ∷ l.self-inside.by_column) (l.c + 1);
  since : l.self-inside.since ≡ l.fn.self.since;
  kinds : AreOfTheirKinds l.self-inside.by_key l.self-inside.by_column;
}
