-- Lists that are set aside.
use Rattle.std.proofs.Common.{◌≡◌, ℕ, ◌+◌, ◌<◌, ◌≤◌, List, length, arith}
use Rattle.std.specs.List.{All}
use Rattle.entry_columns.specs.Columns.{ColumnsView}
use Rattle.index_leaves.specs.Lists.{long_leaves, Outgrows}

abbrev pub AreLarge : List ColumnsView → Type 0
AreLarge lists = All (λ (list : ColumnsView). 128 ≤ list.room) lists

-- large ones are added
pub record IsAdding (large places small : ℕ) (lists : List ColumnsView) (large' places' small' : ℕ) : Type 0 where
  pub more : large ≤ large'
  pub grown : places ≤ places'
  pub same : small' ≡ small
  pub all : AreLarge lists

-- a leaf that outgrew its list is long with one entry more
pub grows_long : (old now new : ColumnsView) → Outgrows old now → now.room ≤ new.room → length new.entries ≡ length old.entries + 1 → long_leaves old < long_leaves new
grows_long old now new outgrown room more = omega (arith, outgrown.small, outgrown.large, outgrown.many, room, more)
