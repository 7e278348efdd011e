-- What a write leaves of a page.
use Rattle.std.specs.Prelude.{◌≡◌, ◌⊎◌, ℕ, true, List, Some}
use Rattle.page_sheet.specs.declared.slot.Slot.{Slot}
use Rattle.page_sheet.specs.Slots.{version_at}
use Rattle.tuple_header.specs.Version.{Version}
use Rattle.tuple_header.specs.declared.version.Header.{Header}
use Rattle.commit_status.specs.Window.{Window, IsCommitted, IsInProgress, IsAborted}
use Rattle.visibility.specs.Visible.{IsFrozen}
use Rattle.hot_chain.specs.Chain.{is_root}
use Rattle.sound_page.specs.Sound.{IsIn}

-- a version that no deleter counts for
abbrev pub HasNoXmax : Window → Header → Type 0
HasNoXmax w h = (h.xmax.0 ≡ 0) ⊎ IsAborted w h.xmax.0

-- whose making counts, or may yet
abbrev pub IsMade : Window → Header → Type 0
IsMade w h = IsFrozen h ⊎ (IsCommitted w h.xmin.0 ⊎ IsInProgress w h.xmin.0)

-- a version that a transaction may take away
pub record IsDeletable (w : Window) (slots : List Slot) (n : ℕ) : Type 0 where
  pub version : Version
  pub there : version_at slots n ≡ Some version
  pub made : IsMade w version.header
  pub untaken : HasNoXmax w version.header

-- the slot still holds this version: the row and its inserter are the same
pub record StillHolds (after : List Slot) (n : ℕ) (t : Version) : Type 0 where
  pub version : Version
  pub there : version_at after n ≡ Some version
  pub row : version.row ≡ t.row
  pub inserter : version.header.xmin.0 ≡ t.header.xmin.0

-- Index entries stay right: what one leads to is a root or redirect still, its chain has what it had, and each version is
-- where it was.
pub record KeepsEntries (w : Window) (slots after : List Slot) : Type 0 where
  pub roots : (n : ℕ) → is_root slots n ≡ true → is_root after n ≡ true
  pub chains : (root n : ℕ) → IsIn w slots root n → IsIn w after root n
  pub versions : (n : ℕ) (t : Version) → version_at slots n ≡ Some t → StillHolds after n t

-- no slot comes into a chain
abbrev pub NoNew : Window → List Slot → List Slot → Type 0
NoNew w slots after = (root n : ℕ) → IsIn w after root n → IsIn w slots root n

-- but this one, as a chain of its own
abbrev pub NewRoot : Window → List Slot → List Slot → ℕ → Type 0
NewRoot w slots after k = IsIn w after k k × ((root n : ℕ) → IsIn w after root n → IsIn w slots root n ⊎ ((root ≡ k) × (n ≡ k)))

-- but this one, in the chain that has the version which it replaces
abbrev pub NewIn : Window → List Slot → List Slot → ℕ → ℕ → Type 0
NewIn w slots after n k = ((root : ℕ) → IsIn w slots root n → IsIn w after root k)
    × ((root m : ℕ) → IsIn w after root m → IsIn w slots root m ⊎ (IsIn w slots root n × (m ≡ k)))
