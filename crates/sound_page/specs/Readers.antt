-- What readers find on a page. A reader is a snapshot and ids of its own that are in progress.
use Rattle.std.specs.Prelude.{◌≡◌, ◌⊎◌, ◌↔◌, ◌≤◌, ℕ, List, Some, Contains}
use Rattle.page_sheet.specs.declared.slot.Slot.{Slot}
use Rattle.page_sheet.specs.Slots.{version_at}
use Rattle.tuple_header.specs.Version.{Version}
use Rattle.commit_status.specs.Window.{Window, IsWindow, IsActive, IsCommitted, IsAborted, IsUpToNext, turns}
use Rattle.snapshot.specs.Snap.{Snap}
use Rattle.snapshot.specs.Laws.{IsBounded}
use Rattle.visibility.specs.Seeing.{VisibleBy}
use Rattle.visibility.specs.Visible.{IsFrozen, ReadsIn}
use Rattle.xid_circle.specs.Circle.{Precedes}

-- a slot holds this version, and whoever counts the ids of R sees it
pub record FindsBy (R : ℕ → Type 0) (slots : List Slot) (n : ℕ) (t : Version) : Type 0 where
  pub there : version_at slots n ≡ Some t
  pub seen : VisibleBy R t.header

-- what pruning at the horizon asks of a reader
pub record IsPageReader (w : Window) (horizon : ℕ) (slots : List Slot) (R : ℕ → Type 0) : Type 0 where
  -- it counts what was committed before the horizon
  pub past : (x : ℕ) → IsCommitted w x → Precedes x horizon → R x
  -- and nothing that is aborted
  pub none_aborted : (x : ℕ) → IsAborted w x → ¬ R x
  -- who reads a version's deletion reads its making
  pub in_order : (n : ℕ) (t : Version) → version_at slots n ≡ Some t → IsCommitted w t.header.xmax.0 → R t.header.xmax.0
      → IsFrozen t.header ⊎ R t.header.xmin.0

abbrev pub FindsVersion : Window → Snap → List ℕ → List Slot → ℕ → Version → Type 0
FindsVersion w s own slots n t = FindsBy (ReadsIn w s own) slots n t

-- A snapshot and own ids, in a window: no snapshot that is open, or taken later, has an xmin before the horizon.
pub record IsOpenReader (w : Window) (horizon : ℕ) (slots : List Slot) (s : Snap) (own : List ℕ) : Type 0 where
  pub window : IsWindow w
  pub snapshot : IsBounded w s
  pub horizon_upto : IsUpToNext w horizon
  pub low : turns w.first horizon ≤ turns w.first s.xmin
  pub active : (x : ℕ) → Contains own x → IsActive w x
  -- who reads a version's deletion reads its making
  pub in_order : (n : ℕ) (t : Version) → version_at slots n ≡ Some t → IsCommitted w t.header.xmax.0 → ReadsIn w s own t.header.xmax.0
      → IsFrozen t.header ⊎ ReadsIn w s own t.header.xmin.0

-- each such reader finds in each slot the version that it found there, and no other
abbrev pub KeepsFound : Window → ℕ → List Slot → List Slot → Type 0
KeepsFound w horizon slots after = (s : Snap) (own : List ℕ) → IsOpenReader w horizon slots s own
    → (n : ℕ) (t : Version) → FindsVersion w s own slots n t ↔ FindsVersion w s own after n t
