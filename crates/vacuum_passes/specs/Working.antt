-- What the parts of a vacuum's step do: to one page, to the collected slots, and to one index.
use Rattle.std.specs.Prelude.{◌≡◌, ◌+◌, ◌-◌, ℕ, nat_lt, if◌then◌else◌, List, ◌++◌, length, take, map, Option}
use Rattle.xid_circle.specs.Numbers.{Id, PageNo, Count}
use Rattle.xid_circle.specs.declared.Tid.{Tid}
use Rattle.index_entries.specs.declared.entry.Entry.{Entry}
use Rattle.root_index.specs.declared.progress.Progress.{Progress}
use Rattle.freeze.specs.DeadSlots.{ListsDead}
use Rattle.heap_write.specs.Heap.{HeapView}
use Rattle.heap_write.specs.Cleaning.{SweepsAt, FreesAt, Notes}
use Rattle.vacuum_passes.specs.declared.vacuum.Phase.{Phase}
use Rattle.vacuum_passes.specs.declared.vacuum.Phase.TheVariants as phase
use Rattle.vacuum_passes.specs.View.{places, phase_with}
use Rattle.vacuum_passes.specs.Visits.{VisitsAt}
use Rattle.vacuum_passes.specs.Steps.{PhaseAfter}

-- only while slots are freed are some of the places that the vacuum holds those of freed ones
abbrev pub FreesLast : Phase → ℕ → Type 0
FreesLast phase.Heap freed = freed ≡ 0
FreesLast (phase.Index i from) freed = freed ≡ 0
FreesLast phase.Free freed = Unit {0}

-- A page.

-- it is pruned, frozen and noted
pub record CleansPage (h h' : HeapView) (horizon cutoff : Id) (p : PageNo) : Type 0 where
  pub visited : HeapView
  pub visits : VisitsAt h visited horizon cutoff p
  pub notes : Notes visited h' p horizon

-- it is visited, its dead slots are collected, and this page and phase come next
pub record VisitsFrom (h h' : HeapView) (horizon cutoff : Id) (p : PageNo) (limit : Count) (old new : List Tid) (next : PageNo) (after : Phase) : Type 0 where
  pub page : CleansPage h h' horizon cutoff p
  pub dead : List ℕ
  pub lists : ListsDead page.notes.page.slots dead
  pub store : new ≡ old ++ places p (take (limit - length old) dead)
  pub onward : next ≡ (if nat_lt (limit - length old) (length dead) then p else p + 1)
  pub phase : after ≡ phase_with limit new

-- its collected slots become unused, and it is noted
pub record FreesPage (h h' : HeapView) (horizon p : ℕ) (here : List Tid) : Type 0 where
  pub freed : HeapView
  pub frees : FreesAt h freed p (map (λ (tid : Tid). tid.slot) here)
  pub notes : Notes freed h' p horizon

-- An index.

-- a piece of it is gone through, and this comes next
pub record SweepsPiece (h h' : HeapView) (dead : List Tid) (i : ℕ) (from : Option Entry) (after : Phase) : Type 0 where
  pub progress : Progress
  pub sweeps : SweepsAt h h' i dead from progress
  pub next : PhaseAfter h.indexes i progress after
