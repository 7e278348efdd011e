use Rattle.std.proofs.Common.{◌∷◌, ◌≡◌, Some}
use Rattle.table_indexes.specs.Indexes.{AreOfTheirKinds}
use Rattle.table_indexes.proofs.Forgetting.{ForgetsUpTo}
use Rattle.table_indexes.proofs.indexes.Indexes.forget.Given as goal

abbrev pub invariant-loop-c : goal.invariant-loop-c
invariant-loop-c l = ForgetsUpTo l.x.0 l.fn.self.since l.self-inside.since l.c × (Some l.self-inside.by_key ∷ l.self-inside.by_column ≡ l.fn.self.indexes) × AreOfTheirKinds l.self-inside.by_key l.self-inside.by_column
