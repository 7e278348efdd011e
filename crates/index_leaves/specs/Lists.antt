-- Lists of entries with places for 64 or for 128.
use Rattle.std.specs.Prelude.{◌<◌, ◌≤◌, ◌+◌, ◌-◌, min, ℕ, length}
use Rattle.xid_circle.specs.Numbers.{Count}
use Rattle.index_entries.specs.declared.node.TheConstants.{MOST_PARTS, HALF}
use Rattle.entry_columns.specs.Columns.{ColumnsView}

-- 1 where there are places for 128 entries, else 0
abbrev pub halves_more : Count → ℕ
halves_more room = min 1 (room - 127)

-- 1 where 64 entries or more are in places for 128, else 0
abbrev pub long_leaves : ColumnsView → ℕ
long_leaves leaf = min (halves_more leaf.room) (length leaf.entries - 63)

-- there were fewer places than for 128 entries, and now there are so many, for more than 64
pub record Outgrows (old new : ColumnsView) : Type 0 where
  pub small : old.room < MOST_PARTS
  pub large : MOST_PARTS ≤ new.room
  pub many : HALF ≤ length old.entries

-- 64 entries or more, in all the places there are
pub record IsSmallAndFull (leaf : ColumnsView) : Type 0 where
  pub small : leaf.room < MOST_PARTS
  pub full : HALF ≤ length leaf.entries

-- What is set aside for leaves to come.

pub record ListsView : Type 0 where
  -- so many lists with places for 128 entries
  pub large : ℕ
  -- for so many of them there are places
  pub places : ℕ
  -- 1 where there is a list with fewer places, else 0
  pub small : ℕ

-- a leaf can give a large list back
abbrev pub HaveListPlaces : ListsView → Type 0
HaveListPlaces lists = (0 < lists.places) × (0 < lists.large + lists.small)
