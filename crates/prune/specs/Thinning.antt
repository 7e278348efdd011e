-- What a part of pruning leaves of a page's slots: of each chain a prefix goes that pruning would cut too, or nothing.
use Rattle.std.specs.Prelude.{◌≡◌, ◌≢◌, ℕ, ◌<◌, ◌≤◌, true, false, List, length, Some, slice_get, slice_index}
use Rattle.xid_circle.specs.Numbers.{Id, SlotNo, Count}
use Rattle.page_sheet.specs.declared.slot.Slot.{Slot}
use Rattle.page_sheet.specs.declared.slot.Slot.TheVariants.{Unused}
use Rattle.page_sheet.specs.Slots.{slot_at, version_at, SlotIsThere}
use Rattle.tuple_header.specs.Version.{Version}
use Rattle.commit_status.specs.Window.{Window}
use Rattle.hot_chain.specs.Chain.{has_aborted, is_root, IsChain}
use Rattle.prune.specs.Actions.{acted}
use Rattle.prune.specs.Checks.{IsCutIn}
use Rattle.prune.specs.Cutting.{RemovesVersions}
use Rattle.prune.specs.Pruning.{root_action}

-- the first so many versions of a root's chain go, and the root becomes what goes with the first that is kept
pub record IsShortened (w : Window) (horizon : Id) (slots after : List Slot) (root : SlotNo) (chain : List SlotNo) (prefix : Count) : Type 0 where
  pub within : prefix ≤ length chain
  pub cut : (i : ℕ) → i < prefix → IsCutIn w horizon slots chain i
  pub leads : slot_at after root ≡ acted (slot_at slots root) (root_action prefix (slice_get chain prefix))
  pub gone : (i : ℕ) → i < prefix → slice_index chain i ≢ root → slot_at after (slice_index chain i) ≡ Some Unused
  pub kept : (i : ℕ) → prefix ≤ i → i < length chain → slot_at after (slice_index chain i) ≡ slot_at slots (slice_index chain i)

-- a slot that is no root's stays, or becomes unused where it held a version
pub data StaysOrGoes (slots after : List Slot) (n : SlotNo) : Type 0 where
  stays : slot_at after n ≡ slot_at slots n → StaysOrGoes slots after n
  goes : (t : Version) → version_at slots n ≡ Some t → slot_at after n ≡ Some Unused → StaysOrGoes slots after n

-- the slots after a part of pruning, or all of it
pub record IsThinned (w : Window) (horizon : Id) (slots after : List Slot) : Type 0 where
  pub count : length after ≡ length slots
  pub removes : RemovesVersions w horizon slots after
  pub chains : (root : ℕ) (chain : List ℕ) → is_root slots root ≡ true → IsChain (has_aborted w) slots root chain
      → (prefix : ℕ) × IsShortened w horizon slots after root chain prefix
  pub others : (n : ℕ) → SlotIsThere slots n → is_root slots n ≡ false → StaysOrGoes slots after n
