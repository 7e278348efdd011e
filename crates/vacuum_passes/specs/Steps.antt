-- What each step of a vacuum does: the first of these that applies.
use Rattle.std.specs.Prelude.{◌≡◌, ◌≢◌, ◌<◌, ◌≤◌, ℕ, ◌==◌, not, List, [], ◌∷◌, length, Option, Some, None, Contains}
use Rattle.std.specs.List.{filter}
use Rattle.xid_circle.specs.declared.Tid.{Tid}
use Rattle.index_entries.specs.declared.entry.Entry.{Entry}
use Rattle.table_indexes.specs.Indexes.{IndexesView, IsInUse, IsNextIndex}
use Rattle.heap_write.specs.Heap.{HeapView}
use Rattle.root_index.specs.declared.progress.Progress.{Progress}
use Rattle.root_index.specs.declared.progress.Progress.TheVariants.{More, Done}
use Rattle.vacuum_passes.specs.declared.vacuum.Phase.{Phase}
use Rattle.vacuum_passes.specs.declared.vacuum.Phase.TheVariants as phase
use Rattle.calls.specs.declared.vacuum.Piece.{Piece}
use Rattle.calls.specs.declared.vacuum.Piece.TheVariants as piece
use Rattle.vacuum_passes.specs.View.{VacuumView, counted, at_end, places}
use Rattle.vacuum_passes.specs.Visits.{IsNextPage, NoPageLeft, Visits}
use Rattle.heap_write.specs.Cleaning.{SweepsAt, FreesAt, Notes}

-- Index.

-- what comes after a piece of index i: another of it, or the first of the next index, or the collected slots become free
pub data PhaseAfter (indexes : IndexesView) (i : ℕ) (progress : Progress)
    (after : Phase) : Type 0 where
  more : (last : Entry) → progress ≡ More last → after ≡ phase.Index i (Some last)
      → PhaseAfter indexes i progress after
  onward : (j : ℕ) → progress ≡ Done → IsNextIndex indexes i j → after ≡ phase.Index j None
      → PhaseAfter indexes i progress after
  over : progress ≡ Done → ((n : ℕ) → i < n → ¬ IsInUse indexes n) → after ≡ phase.Free
      → PhaseAfter indexes i progress after

-- a piece of index i after an entry is gone through
pub record Sweeps (h h' : HeapView) (v v' : VacuumView) (i : ℕ) (from : Option Entry) : Type 0 where
  pub progress : Progress
  pub sweeps : SweepsAt h h' i v.store from progress
  pub next : PhaseAfter h.indexes i progress v'.phase
  pub same : v' ≡ record v { phase = v'.phase }

-- Free.

-- the collected slots on the page of this number, and those elsewhere
abbrev pub on_page : ℕ → List Tid → List Tid
on_page p store = filter (λ tid. tid.page == p) store

abbrev pub off_page : ℕ → List Tid → List Tid
off_page p store = filter (λ tid. not (tid.page == p)) store

abbrev pub phase_left : List Tid → Phase
phase_left [] = phase.Heap
phase_left (tid ∷ rest) = phase.Free

-- the lowest page with collected slots
pub record IsLowest (store : List Tid) (p : ℕ) : Type 0 where
  pub some : (tid : Tid) × Contains store tid × (tid.page ≡ p)
  pub lowest : (tid : Tid) → Contains store tid → p ≤ tid.page

pub record Frees (h h' : HeapView) (v v' : VacuumView) (horizon p : ℕ) : Type 0 where
  pub lowest : IsLowest v.store p
  pub numbers : List ℕ
  pub are : on_page p v.store ≡ places p numbers
  pub freed : HeapView
  pub frees : FreesAt h freed p numbers
  pub notes : Notes freed h' p horizon
  pub is : v' ≡ record v { store = off_page p v.store; phase = phase_left (off_page p v.store) }

-- it is not in use, as no page is that has a collected slot which is dead: nothing is freed
pub record Drops (h h' : HeapView) (v v' : VacuumView) (p : ℕ) : Type 0 where
  pub lowest : IsLowest v.store p
  pub unused : length h.pages.pages ≤ p
  pub same : h' ≡ h
  pub is : v' ≡ record v { store = off_page p v.store; phase = phase_left (off_page p v.store) }

-- A step: the heap before and after, the vacuum before, the present horizon, the vacuum after, and what was done; none where
-- it has ended. (An aggressive one then lets the engine forget old ids.)
pub data Steps (h h' : HeapView) (v : VacuumView) (horizon : ℕ) : Option VacuumView → Option Piece
    → Type 0 where
  visits : (p : ℕ) (v' : VacuumView) → v.phase ≡ phase.Heap → IsNextPage h v p
      → Visits h h' v v' horizon p
      → Steps h h' v horizon (Some (counted v')) (Some (piece.Heap p))
  begins_index : (v' : VacuumView) → v.phase ≡ phase.Heap → NoPageLeft h v → v.store ≢ []
      → Sweeps h h' (at_end v) v' 0 None
      → Steps h h' v horizon (Some (counted v')) (Some (piece.Index 0))
  sweeps : (i : ℕ) (from : Option Entry) (v' : VacuumView) → v.phase ≡ phase.Index i from
      → Sweeps h h' v v' i from
      → Steps h h' v horizon (Some (counted v')) (Some (piece.Index i))
  frees : (p : ℕ) (v' : VacuumView) → v.phase ≡ phase.Free → Frees h h' v v' horizon p
      → Steps h h' v horizon (Some (counted v')) (Some (piece.Free p))
  drops : (p : ℕ) (v' : VacuumView) → v.phase ≡ phase.Free → Drops h h' v v' p
      → Steps h h' v horizon (Some (counted v')) (Some (piece.Free p))
  ends : v.phase ≡ phase.Heap → NoPageLeft h v → v.store ≡ [] → h' ≡ h
      → Steps h h' v horizon None None
