-- What readers find after a step. A reader is a snapshot and ids of its own. (The manual's "Transaction Isolation": a
-- transaction sees its own changes, and nobody else sees them while it is open.)
use Rattle.std.specs.Prelude.{◌≡◌, ◌≢◌, ◌⊎◌, ◌↔◌, ℕ, List, Option, Some, Contains}
use Rattle.xid_circle.specs.declared.Tid.{Tid}
use Rattle.tuple_header.specs.Version.{Version}
use Rattle.tuple_header.specs.declared.version.Header.{Header}
use Rattle.tuple_header.specs.declared.version.Row.{Row}
use Rattle.commit_status.specs.Window.{IsGiven}
use Rattle.snapshot.specs.Snap.{Snap}
use Rattle.snapshot.specs.Own.{Own}
use Rattle.visibility.specs.Visible.{IsFrozen, IsVisible}
use Rattle.sound_page.specs.Readers.{IsOpenReader}
use Rattle.prune_actions.specs.declared.Action.{Action}
use Rattle.index_lookup.specs.Pages.{slots_on, version_in}
use Rattle.heap_write.specs.Heap.{HeapView, slots_of}
use Rattle.heap_write.specs.Writes.{Inserts, Updates, Deletes, Prunes, Applies}
use Rattle.table_integrity.specs.Table.{SoundTable, MayDelete}
use Rattle.table_integrity.specs.Laws.{WritesUnder}

-- a version of this row stands at the place, and is seen
pub record FindsAt (seen : Header → Type 0) (store : Tid → Option Version) (p : Tid) (row : Row) : Type 0 where
  pub version : Version
  pub there : store p ≡ Some version
  pub is_seen : seen version.header
  pub of_row : version.row ≡ row

-- the reader finds the row at the place
abbrev pub FindsRowAt : HeapView → Snap → List ℕ → Tid → Row → Type 0
FindsRowAt h s own p row = FindsAt (IsVisible h.statuses s own) (version_in (slots_of h)) p row

-- its snapshot is open, or was taken later, at this horizon, and its ids are in progress
abbrev pub IsTableReader : HeapView → ℕ → Snap → List ℕ → Type 0
IsTableReader h horizon s own = (n : ℕ) → IsOpenReader h.statuses horizon (slots_on (slots_of h) n) s own

-- it finds the same rows at the same places
abbrev pub FindsTheSame : HeapView → HeapView → Snap → List ℕ → Type 0
FindsTheSame h h' s own = (p : Tid) (row : Row) → FindsRowAt h s own p row ↔ FindsRowAt h' s own p row

-- Nobody can tell.

abbrev pub PruningIsUnseen : Type 0
PruningIsUnseen = (h h' : HeapView) (number horizon : ℕ) (s : Snap) (own : List ℕ) → SoundTable h → Prunes h h' number horizon → IsTableReader h horizon s own
    → FindsTheSame h h' s own

-- that a plan was applied, whoever made it
abbrev pub ApplyingIsUnseen : Type 0
ApplyingIsUnseen = (h h' : HeapView) (number horizon change : ℕ) (actions : List (ℕ × Action)) (s : Snap) (own : List ℕ) → SoundTable h
    → Applies h h' number horizon change actions → IsTableReader h horizon s own → FindsTheSame h h' s own

-- a write is seen by nobody who doesn't own its id
abbrev pub InsertingIsUnseen : Type 0
InsertingIsUnseen = (h h' : HeapView) (horizon : ℕ) (own own' : Own) (row : Row) (x : ℕ) (s : Snap) (ids : List ℕ) → WritesUnder h h' own → Inserts h h' own own' row x
    → IsTableReader h horizon s ids → ¬ Contains ids x → FindsTheSame h h' s ids

abbrev pub UpdatingIsUnseen : Type 0
UpdatingIsUnseen = (h h' : HeapView) (horizon : ℕ) (own own' : Own) (place : Tid) (t : Version) (row : Row) (x : ℕ) (s : Snap) (ids : List ℕ) → SoundTable h → WritesUnder h h' own
    → MayDelete h place t → Updates h h' own own' place row horizon x → IsTableReader h horizon s ids → ¬ Contains ids x → FindsTheSame h h' s ids

abbrev pub DeletingIsUnseen : Type 0
DeletingIsUnseen = (h h' : HeapView) (horizon : ℕ) (own own' : Own) (place : Tid) (t : Version) (x : ℕ) (s : Snap) (ids : List ℕ) → WritesUnder h h' own
    → MayDelete h place t → Deletes h h' own own' place x → IsTableReader h horizon s ids → ¬ Contains ids x → FindsTheSame h h' s ids

-- Who writes finds what it has written.

-- the reader has these ids of its own before it writes
pub record IsAuthor (h : HeapView) (horizon : ℕ) (s : Snap) (own : List ℕ) : Type 0 where
  pub reader : IsTableReader h horizon s own
  -- each inserter and each deleter on a page is an id that was given
  pub makers : (p : Tid) (t : Version) → version_in (slots_of h) p ≡ Some t → ¬ IsFrozen t.header → IsGiven h.statuses t.header.xmin.0
  pub deleters : (p : Tid) (t : Version) → version_in (slots_of h) p ≡ Some t → t.header.xmax.0 ≢ 0 → IsGiven h.statuses t.header.xmax.0

-- the same is found at each place, and this row at one more
pub record FindsOneMore (before after : Tid → Row → Type 0) (row : Row) : Type 0 where
  pub place : Tid
  pub fresh : (r : Row) → ¬ before place r
  pub each : (p : Tid) (r : Row) → after p r ↔ (before p r ⊎ ((p ≡ place) × (r ≡ row)))

-- what is found elsewhere than at this place
abbrev pub Elsewhere : Tid → (Tid → Row → Type 0) → Tid → Row → Type 0
Elsewhere place finds p row = finds p row × (p ≢ place)

abbrev pub InsertIsFound : Type 0
InsertIsFound = (h h' : HeapView) (horizon : ℕ) (own own' : Own) (row : Row) (x : ℕ) (s : Snap) → SoundTable h → WritesUnder h h' own
    → Inserts h h' own own' row x → IsAuthor h horizon s own.ids → FindsOneMore (FindsRowAt h s own.ids) (FindsRowAt h' s own'.ids) row

-- the old row goes, and the new one comes
abbrev pub UpdateIsFound : Type 0
UpdateIsFound = (h h' : HeapView) (horizon : ℕ) (own own' : Own) (place : Tid) (t : Version) (row : Row) (x : ℕ) (s : Snap) → SoundTable h → WritesUnder h h' own
    → MayDelete h place t → Updates h h' own own' place row horizon x → IsAuthor h horizon s own.ids
    → FindsOneMore (Elsewhere place (FindsRowAt h s own.ids)) (FindsRowAt h' s own'.ids) row

abbrev pub DeleteIsFound : Type 0
DeleteIsFound = (h h' : HeapView) (horizon : ℕ) (own own' : Own) (place : Tid) (t : Version) (x : ℕ) (s : Snap) → SoundTable h → WritesUnder h h' own
    → MayDelete h place t → Deletes h h' own own' place x → IsAuthor h horizon s own.ids
    → (p : Tid) (r : Row) → FindsRowAt h' s own'.ids p r ↔ Elsewhere place (FindsRowAt h s own.ids) p r
