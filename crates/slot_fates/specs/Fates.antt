-- What pruning would do to a slot now, and why not more. Each case says what holds, and that none before it does.
use Rattle.std.specs.Prelude.{◌≡◌, ◌≢◌, ℕ, zero, suc, Bool, true, false, List, Option, Some, None, slice_get}
use Rattle.xid_circle.specs.Circle.{Precedes}
use Rattle.xid_circle.specs.Numbers.{Id, SlotNo, Count}
use Rattle.tuple_header.specs.declared.version.Header.{Header}
use Rattle.page_sheet.specs.declared.slot.Slot.{Slot}
use Rattle.page_sheet.specs.declared.slot.Slot.TheVariants as slot
use Rattle.page_sheet.specs.Slots.{slot_at}
use Rattle.commit_status.specs.Window.{Window, IsCommitted, IsAborted, status_of}
use Rattle.visibility.specs.Visible.{IsFrozen, IsDead}
use Rattle.hot_chain.specs.Chain.{has_aborted, IsChain}
use Rattle.prune.specs.Cutting.{IsCutCount}
use Rattle.slot_fates.specs.declared.fate.DeletedBy.{DeletedBy}
use Rattle.slot_fates.specs.declared.fate.VersionFate.{VersionFate}
use Rattle.slot_fates.specs.declared.fate.VersionFate.TheVariants.{RolledBack, Deleted, GoesWith, Kept}
use Rattle.slot_fates.specs.declared.fate.SlotFate.{SlotFate}
use Rattle.slot_fates.specs.declared.fate.SlotFate.TheVariants as fate

-- its maker was rolled back
abbrev pub WasRolledBack : Window → Header → Type 0
WasRolledBack w h = (¬ IsFrozen h) × IsAborted w h.xmin.0

-- its deleter has committed, and is before the horizon
abbrev pub WasDeleted : Window → (horizon : Id) → Header → Type 0
WasDeleted w horizon h = IsCommitted w h.xmax.0 × Precedes h.xmax.0 horizon

-- the slot of the last of so many
abbrev pub last_of : List SlotNo → Count → Option SlotNo
last_of chain zero = None
last_of chain (suc before) = slice_get chain before

-- the slot of the last version that is dead, of this one and those that come after it in its chain
pub record IsLastDead (w : Window) (horizon : Id) (slots : List Slot) (n : SlotNo) (answer : Option SlotNo) : Type 0 where
  pub chain : List ℕ
  pub cut : ℕ
  pub is_chain : IsChain (has_aborted w) slots n chain
  pub is_cut : IsCutCount w horizon slots chain cut
  pub is_last : answer ≡ last_of chain cut

-- who deleted a version, if anybody did, and what became of that id
abbrev pub IsDeleter : Window → Header → Option DeletedBy → Type 0
IsDeleter w h None = h.xmax.0 ≡ 0
IsDeleter w h (Some deleter) = (h.xmax.0 ≢ 0) × (deleter.id ≡ h.xmax) × (deleter.status ≡ status_of w h.xmax.0)

abbrev pub IsVersionFate : Window → (horizon : Id) → List Slot → SlotNo → Header → VersionFate → Type 0
IsVersionFate w horizon slots n h (RolledBack x) = (x ≡ h.xmin) × WasRolledBack w h
IsVersionFate w horizon slots n h (Deleted x) = (x ≡ h.xmax) × (¬ WasRolledBack w h) × WasDeleted w horizon h
IsVersionFate w horizon slots n h (GoesWith later) = (¬ IsDead w horizon h) × IsLastDead w horizon slots n (Some later)
IsVersionFate w horizon slots n h (Kept deleter) = IsLastDead w horizon slots n None × IsDeleter w h deleter

-- that of what stands in the slot
abbrev pub IsFateOf : Window → (horizon : Id) → List Slot → SlotNo → Option Slot → SlotFate → Type 0
IsFateOf w horizon slots n None fate.NoSlot = Unit {0}
IsFateOf w horizon slots n (Some slot.Unused) fate.Unused = Unit {0}
IsFateOf w horizon slots n (Some slot.Dead) fate.Dead = Unit {0}
IsFateOf w horizon slots n (Some (slot.Redirect k)) (fate.Redirect target) = target ≡ k
IsFateOf w horizon slots n (Some (slot.Normal t)) (fate.Version f) = IsVersionFate w horizon slots n t.header f
IsFateOf w horizon slots n s f = ⊥

abbrev pub IsFate : Window → (horizon : Id) → List Slot → SlotNo → SlotFate → Type 0
IsFate w horizon slots n f = IsFateOf w horizon slots n (slot_at slots n) f

-- pruning takes a version of this fate
abbrev pub goes : VersionFate → Bool
goes (Kept deleter) = false
goes fate = true
