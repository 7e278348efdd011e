-- From which id on each index is exact, when ids are forgotten: one column after another.
use Rattle.std.proofs.Common.{◌≡◌, ℕ, ◌<◌, ◌≤◌, List, length, get_or, Option, None}
use Rattle.std.specs.Option.{option_map}
use Rattle.xid_circle.specs.declared.Xid.{Xid}
use Rattle.table_indexes.specs.Indexes.{since_after}

-- from which id on the index by a column is exact
abbrev column_since : List (Option Xid) → ℕ → Option ℕ
column_since since c = option_map (λ (x : Xid). x.0) (get_or since c None)

-- the first i columns have been looked at
pub record ForgetsUpTo (x : ℕ) (before after : List (Option Xid)) (i : ℕ) : Type 0 where
  pub size : length after ≡ length before
  pub done : (c : ℕ) → c < i → column_since after c ≡ since_after x (column_since before c)
  pub rest : (c : ℕ) → i ≤ c → column_since after c ≡ column_since before c
