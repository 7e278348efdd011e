-- Writes and what becomes of transactions keep a page sound.
use Rattle.std.specs.Prelude.{◌≡◌, ◌≢◌, ◌⊎◌, ◌≤◌, ℕ, Bool, false, List, Option, Some, Contains}
use Rattle.xid_circle.specs.Numbers.{SlotNo}
use Rattle.page_sheet.specs.declared.slot.Slot.{Slot}
use Rattle.page_sheet.specs.Slots.{slot_at, version_at, free_number, next_change}
use Rattle.tuple_header.specs.Version.{Version}
use Rattle.tuple_header.specs.declared.version.Row.{Row}
use Rattle.commit_status.specs.declared.status.Status.TheVariants.{Committed, Aborted}
use Rattle.commit_status.specs.Window.{Window, IsWindow, IsActive, IsCommitted, IsAborted}
use Rattle.commit_status.specs.Changes.{Gives, Finishes}
use Rattle.visibility.specs.Visible.{IsFrozen}
use Rattle.sound_page.specs.Sound.{SoundPage}
use Rattle.tuple_writes.specs.Writes.{with_replaced, replaced_change, with_root, with_updated}
use Rattle.tuple_writes.specs.Keeps.{IsDeletable, KeepsEntries, NoNew, NewRoot, NewIn}
use Rattle.tuple_header.specs.declared.version.TheConstants.{MOST_SLOTS}

-- Writes by an id in progress.

-- a new root
pub record AddsRoot (w : Window) (slots after : List Slot) (k : ℕ) : Type 0 where
  pub sound : SoundPage w after
  pub others : (m : ℕ) → m ≢ k → slot_at after m ≡ slot_at slots m
  pub entries : KeepsEntries w slots after
  pub chains : NewRoot w slots after k

abbrev pub AddingKeepsSound : Type 0
AddingKeepsSound = (w : Window) (x page : ℕ) (slots : List Slot) (updated : Bool) (row : Row) → SoundPage w slots → IsActive w x → free_number slots ≤ MOST_SLOTS
    → AddsRoot w slots (with_root slots updated x page row) (free_number slots)

-- a version taken away: deleted, or replaced by one elsewhere
pub record SetsXmaxOnPage (w : Window) (slots after : List Slot) (n : ℕ) : Type 0 where
  pub sound : SoundPage w after
  pub others : (m : ℕ) → m ≢ n → slot_at after m ≡ slot_at slots m
  pub entries : KeepsEntries w slots after
  pub chains : NoNew w slots after

abbrev pub SettingXmaxKeepsSound : Type 0
SettingXmaxKeepsSound = (w : Window) (n x page place : ℕ) (slots : List Slot) → SoundPage w slots → IsActive w x → IsDeletable w slots n
    → SetsXmaxOnPage w slots (with_replaced slots n x page place false) n

-- a version replaced by a heap-only one
pub record HotUpdatesPage (w : Window) (slots after : List Slot) (n k : SlotNo) : Type 0 where
  pub sound : SoundPage w after
  pub others : (m : ℕ) → m ≢ n → m ≢ k → slot_at after m ≡ slot_at slots m
  pub entries : KeepsEntries w slots after
  pub chains : NewIn w slots after n k

abbrev pub HotUpdatingKeepsSound : Type 0
HotUpdatingKeepsSound = (w : Window) (n x page : ℕ) (slots : List Slot) (row : Row) → SoundPage w slots → IsActive w x → IsDeletable w slots n → free_number slots ≤ MOST_SLOTS
    → HotUpdatesPage w slots (with_updated slots n x page row) n (free_number slots)

-- each version taken away raises the change number
abbrev pub SettingXmaxIsCounted : Type 0
SettingXmaxIsCounted = (w : Window) (n x page place change : ℕ) (hot : Bool) (slots : List Slot) → IsActive w x → IsDeletable w slots n
    → replaced_change slots n x page place hot change ≡ next_change change

-- What becomes of transactions.

-- an id is given
abbrev pub GivingKeepsSound : Type 0
GivingKeepsSound = (w v : Window) (parent : Option ℕ) (slots : List Slot) → IsWindow w → IsWindow v → Gives w v parent → SoundPage w slots → SoundPage v slots

-- whoever these ids deleted was made by a frozen or committed id, or by one of them
abbrev pub DeletedWhatWasMade : Window → List Slot → List ℕ → Type 0
DeletedWhatWasMade w slots ids = (n : ℕ) (t : Version) → version_at slots n ≡ Some t → Contains ids t.header.xmax.0
    → IsFrozen t.header ⊎ (IsCommitted w t.header.xmin.0 ⊎ Contains ids t.header.xmin.0)

-- what these ids made was deleted by nobody, by an aborted id, or by one of them
abbrev pub AloneDeletedTheirs : Window → List Slot → List ℕ → Type 0
AloneDeletedTheirs w slots ids = (n : ℕ) (t : Version) → version_at slots n ≡ Some t → ¬ IsFrozen t.header → Contains ids t.header.xmin.0
    → (t.header.xmax.0 ≡ 0) ⊎ (IsAborted w t.header.xmax.0 ⊎ Contains ids t.header.xmax.0)

abbrev pub CommittingKeepsSound : Type 0
CommittingKeepsSound = (w v : Window) (ids : List ℕ) (slots : List Slot) → ((x : ℕ) → Contains ids x → IsActive w x) → Finishes w v ids Committed
    → DeletedWhatWasMade w slots ids → SoundPage w slots → SoundPage v slots

abbrev pub AbortingKeepsSound : Type 0
AbortingKeepsSound = (w v : Window) (ids : List ℕ) (slots : List Slot) → ((x : ℕ) → Contains ids x → IsActive w x) → Finishes w v ids Aborted
    → AloneDeletedTheirs w slots ids → SoundPage w slots → SoundPage v slots
