-- What pruning cuts: of a chain the prefix, up to and with the last dead version. (README.HOT, "Pruning"; the manual's
-- "Heap-Only Tuples". What no transaction can see any more may be taken from the prefix of a chain, since a reader who sees
-- a version deleted goes on to the next.)
use Rattle.std.specs.Prelude.{◌≡◌, ℕ, ◌-◌, ◌<◌, ◌≤◌, ◌⊎◌, List, length, Some, slice_index}
use Rattle.page_sheet.specs.declared.slot.Slot.{Slot}
use Rattle.page_sheet.specs.Slots.{version_at}
use Rattle.tuple_header.specs.Version.{Version}
use Rattle.commit_status.specs.Window.{Window}
use Rattle.sound_page.specs.Dead.{IsDeadAt}
use Rattle.sound_page.specs.Links.{link, Reaches}

-- By a chain's list, on any page.

-- so many of the first versions of a chain end with its last dead one
pub record IsCutCount (w : Window) (horizon : ℕ) (slots : List Slot) (chain : List ℕ) (cut : ℕ) : Type 0 where
  pub within : cut ≤ length chain
  pub dead : 0 < cut → IsDeadAt w horizon slots (slice_index chain (cut - 1))
  pub none_after : (j : ℕ) → cut ≤ j → j < length chain → ¬ IsDeadAt w horizon slots (slice_index chain j)

-- By links alone: where no chain comes back to itself, this says the same.

-- the version in the slot, or a later one along its links, is dead
pub record IsCut (w : Window) (horizon : ℕ) (slots : List Slot) (n : ℕ) : Type 0 where
  pub last : ℕ
  pub later : Reaches (link w slots) n last
  pub dead : IsDeadAt w horizon slots last

-- Versions go, and none comes or moves; each that goes is cut.
pub record RemovesVersions (w : Window) (horizon : ℕ) (slots after : List Slot) : Type 0 where
  pub kept : (n : ℕ) (t : Version) → version_at after n ≡ Some t → version_at slots n ≡ Some t
  pub gone : (n : ℕ) (t : Version) → version_at slots n ≡ Some t → (version_at after n ≡ Some t) ⊎ IsCut w horizon slots n
