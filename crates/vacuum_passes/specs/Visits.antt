-- What a vacuum does to pages, their marks and indexes. (The manual's "Routine Vacuuming"; src/backend/access/heap/vacuumlazy.c: dead
-- slots are collected, the entries that lead to them go, and then they become unused.)
use Rattle.std.specs.Prelude.{◌≡◌, ◌<◌, ◌≤◌, ℕ, true, false, List, length}
use Rattle.xid_circle.specs.Numbers.{Id, PageNo}
use Rattle.space_maps.specs.View.{mark_on}
use Rattle.freeze.specs.DeadSlots.{ListsDead}
use Rattle.heap_write.specs.Heap.{HeapView}
use Rattle.heap_write.specs.Writes.{Prunes}
use Rattle.heap_write.specs.Cleaning.{FreezesAt, Notes}
use Rattle.vacuum_passes.specs.View.{VacuumView, skips, collected}

-- A visit.

-- the first page from the next one on that the mode doesn't skip
pub record IsNextPage (h : HeapView) (v : VacuumView) (p : ℕ) : Type 0 where
  pub onward : v.next ≤ p
  pub within : p < v.pages
  pub in_use : p < length h.pages.pages
  pub unskipped : skips v.mode (mark_on h.pages.marks p) ≡ false
  pub passed : (q : ℕ) → v.next ≤ q → q < p → skips v.mode (mark_on h.pages.marks q) ≡ true

-- there is none
abbrev pub NoPageLeft : HeapView → VacuumView → Type 0
NoPageLeft h v = (q : ℕ) → v.next ≤ q → q < v.pages → q < length h.pages.pages
    → skips v.mode (mark_on h.pages.marks q) ≡ true

-- one page is pruned at a horizon, then frozen at a cutoff
pub record VisitsAt (h h' : HeapView) (horizon cutoff : Id) (p : PageNo) : Type 0 where
  pub pruned : HeapView
  pub prunes : Prunes h pruned p horizon
  pub freezes : FreezesAt pruned h' p cutoff

-- the page is visited at the present horizon, its dead slots are collected, and its exact mark is noted
pub record Visits (h h' : HeapView) (v v' : VacuumView) (horizon p : ℕ) : Type 0 where
  pub visited : HeapView
  pub visits : VisitsAt h visited horizon v.cutoff p
  pub notes : Notes visited h' p horizon
  pub dead : List ℕ
  pub lists : ListsDead notes.page.slots dead
  pub collects : v' ≡ collected v p dead
