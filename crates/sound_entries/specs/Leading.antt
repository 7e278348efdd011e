-- What is found through the entries of an index, and what on the pages themselves.
use Rattle.std.specs.Prelude.{◌≡◌, ℕ, ℤ, List, Option, Some, Contains}
use Rattle.xid_circle.specs.declared.Tid.{Tid}
use Rattle.tuple_header.specs.Version.{Version}
use Rattle.tuple_header.specs.declared.version.Header.{Header}
use Rattle.tuple_header.specs.declared.version.Row.{Row}
use Rattle.page_sheet.specs.declared.slot.Slot.{Slot}
use Rattle.commit_status.specs.Window.{Window, IsAborted}
use Rattle.snapshot.specs.Snap.{Snap}
use Rattle.visibility.specs.Visible.{IsFrozen, IsVisible}
use Rattle.sound_page.specs.Sound.{IsIn}
use Rattle.index_entries.specs.declared.entry.Entry.{Entry}
use Rattle.index_entries.specs.Sets.{IsOf}
use Rattle.index_lookup.specs.Pages.{slots_on, version_in}
use Rattle.sound_entries.specs.Entries.{IsExcused}

-- its inserter is aborted, and it is not frozen
pub record IsUndone (w : Window) (h : Header) : Type 0 where
  pub thawed : ¬ IsFrozen h
  pub aborted : IsAborted w h.xmin.0

-- the reader sees no version that an index may leave out which is exact from this id on
abbrev pub SeesNoExcused : Window → Option ℕ → Snap → List ℕ → Type 0
SeesNoExcused w since s own = (t : Version) → IsExcused w since t → ¬ IsVisible w s own t.header

-- the place is in the chain that the entry leads to
pub record PointsTo (w : Window) (pages : List (List Slot)) (entries : List Entry) (e : Entry) (p : Tid) : Type 0 where
  pub there : Contains entries e
  pub page : p.page ≡ e.tid.page
  pub chain : IsIn w (slots_on pages e.tid.page) e.tid.slot p.slot

-- one entry leads to the place, and no other
pub record HasOneEntry (w : Window) (pages : List (List Slot)) (entries : List Entry) (p : Tid) (value : ℤ) (key : ℕ) : Type 0 where
  pub entry : Entry
  pub of : IsOf value key entry
  pub leads : PointsTo w pages entries entry p
  pub only : (f : Entry) → PointsTo w pages entries f p → f ≡ entry

-- the place holds a version of this value and this key that has P
pub record IsOnHeap (value_of : Row → ℤ) (pages : List (List Slot)) (value : ℤ) (key : ℕ) (P : Version → Type 0) (p : Tid) (t : Version) : Type 0 where
  pub there : version_in pages p ≡ Some t
  pub of_value : value_of t.row ≡ value
  pub of_key : t.row.key ≡ key
  pub has : P t

-- the place is in a chain to which an entry of this value and this key leads, and holds a version that has P
pub record IsByIndex (w : Window) (pages : List (List Slot)) (entries : List Entry) (value : ℤ) (key : ℕ) (P : Version → Type 0) (p : Tid) (t : Version) : Type 0 where
  pub entry : Entry
  pub of : IsOf value key entry
  pub leads : PointsTo w pages entries entry p
  pub there : version_in pages p ≡ Some t
  pub has : P t

-- a version on the heap
abbrev pub SomeOnHeap : (Row → ℤ) → List (List Slot) → ℤ → ℕ → (Header → Type 0) → Type 0
SomeOnHeap value_of pages value key P = (p : Tid) × (t : Version) × IsOnHeap value_of pages value key (λ t. P t.header) p t
