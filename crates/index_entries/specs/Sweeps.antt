-- What a sweep does to entries, from a place among them on.
use Rattle.std.specs.Prelude.{◌≡◌, ◌↔◌, ◌<◌, ◌+◌, ◌-◌, ◌++◌, ℕ, List, Some, true, length, slice_get}
use Rattle.std.specs.List.{filter}
use Rattle.xid_circle.specs.declared.Tid.{Tid}
use Rattle.index_entries.specs.declared.entry.Entry.{Entry}
use Rattle.index_entries.specs.declared.node.Swept.{Swept}
use Rattle.index_entries.specs.Lists.{stays}

-- some entries from this place on were looked at, and those of them that lead to dead places are gone
pub record IsSwept {S : Type 0} (old new : List Entry) (rank : ℕ) (dead : List Tid)
    (swept : Swept S) : Type 0 where
  -- the entries before the place, those that were looked at, and those behind
  pub prefix : List Entry
  pub piece : List Entry
  pub back : List Entry
  pub was : old ≡ prefix ++ (piece ++ back)
  pub is : new ≡ prefix ++ (filter (stays dead) piece ++ back)
  pub begins : length prefix ≡ rank
  pub last : slice_get piece (length piece - 1) ≡ Some swept.last
  pub removed : swept.removed + length (filter (stays dead) piece) ≡ length piece
  pub more : (swept.more ≡ true) ↔ (0 < length back)
