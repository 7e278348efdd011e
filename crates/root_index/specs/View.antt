-- An index as its callers see it.
use Rattle.std.specs.Prelude.{ℕ, zero, suc, ◌-◌, max, Bool, List, length}
use Rattle.xid_circle.specs.Numbers.{Count}
use Rattle.index_entries.specs.declared.entry.Entry.{Entry}
use Rattle.index_entries.specs.declared.node.TheConstants.{MOST_PARTS}

pub record IndexView : Type 0 where
  -- in ascending order, each once
  pub entries : List Entry
  -- for so many inserts nodes are set aside, whatever they split
  pub spare : ℕ
  -- in so many nodes they stand, where a leaf with places for 128 entries counts twice
  pub nodes : ℕ
  -- whether the value of each entry is its key
  pub is_by_key : Bool
  -- whether it is by a column, and takes values and keys of 32 bits alone
  pub is_narrow : Bool

-- Where there are fewer than 128 entries no node is full, and the one leaf that may lack places gets those that are kept ready. Without any
-- entry that is so if nodes are set aside, for these are taken first.
abbrev pub free_places : (entries spare : Count) → Count
free_places zero zero = 0
free_places zero (suc spare) = MOST_PARTS
free_places (suc n) spare = 127 - n

-- how many entries can be inserted without memory, wherever they go
abbrev pub room_in : IndexView → ℕ
room_in index = max index.spare (free_places (length index.entries) index.spare)
