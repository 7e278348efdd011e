-- What is known of when a version on a page may be dead, and where. (PostgreSQL's pd_prune_xid, src/include/storage/bufpage.h.)
use Rattle.std.specs.Prelude.{◌≡◌, ◌≢◌, ℕ, ◌≤◌, min, ◌==◌, if◌then◌else◌, List, Option, Some, None, slice_index_or, Contains}
use Rattle.xid_circle.specs.Numbers.{SlotNo, Count}

pub record PageHint : Type 0 where
  -- the turn from which on a version on the page may be dead, if one is known
  pub turn : Option ℕ
  -- the only slots whose versions may be dead, now or later, if they are known: their numbers, and 0 for none
  pub doubts : Option (List ℕ)

abbrev pub nothing_known : PageHint
nothing_known = record { turn = None; doubts = None }

pub record HintsView : Type 0 where
  pub pages : List PageHint
  -- how many pages can be added without memory
  pub spare : ℕ

-- what is known of the page of this number
abbrev pub hint_on : List PageHint → ℕ → PageHint
hint_on hints n = slice_index_or hints n nothing_known

-- the earlier of this turn and the one that is known, if one is
abbrev pub lowered : Option ℕ → ℕ → Option ℕ
lowered None turn = None
lowered (Some known) turn = Some (min known turn)

-- one slot is doubtful beside those that were; or they are not known any more
abbrev pub AddsDoubt : Option (List SlotNo) → SlotNo → Option (List SlotNo) → Type 0
AddsDoubt known slot None = Unit {0}
AddsDoubt None slot (Some after) = ⊥
AddsDoubt (Some known) slot (Some after) = (n : ℕ) → 1 ≤ n → ¬ Contains after n → (n ≢ slot) × ¬ Contains known n

-- a version in this slot may be dead from this turn on
pub record Lowers (old : PageHint) (turn : Count) (slot : SlotNo) (new : PageHint) : Type 0 where
  pub turn_is : new.turn ≡ lowered old.turn turn
  pub doubts_are : AddsDoubt old.doubts slot new.doubts

-- what a hint of one epoch says in another: nothing
abbrev pub hint_in : ℕ → ℕ → Option ℕ → Option (List ℕ) → PageHint
hint_in now epoch turn doubts = if epoch == now then record { turn = turn; doubts = doubts } else nothing_known
