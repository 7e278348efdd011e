-- What a write does to a table. (README.HOT: an update that stays on the page, and changes no indexed column, makes a heap-only
-- version and no index entry. Any other update makes a root of its own, with an entry in each index. PostgreSQL, heap_insert,
-- heap_update and heap_delete in src/backend/access/heap/heapam.c.)
use Rattle.std.specs.Prelude.{◌≡◌, ◌≢◌, ℕ, ◌<◌, ◌≤◌, Bool, true, false, List, length, Some}
use Rattle.xid_circle.specs.Numbers.{Id, Count}
use Rattle.xid_circle.specs.declared.Tid.{Tid}
use Rattle.tuple_header.specs.declared.version.Row.{Row}
use Rattle.tuple_header.specs.Version.{rounded_size_of}
use Rattle.page_sheet.specs.Slots.{room_of, free_number, next_change, row_at, IsNormalAt}
use Rattle.snapshot.specs.Own.{Own}
use Rattle.prune_actions.specs.declared.Action.{Action}
use Rattle.prune.specs.Actions.{applied}
use Rattle.prune.specs.Checks.{Checks}
use Rattle.prune.specs.Pruning.{PrunesSlot}
use Rattle.prune.specs.Laws.{IsPrunedPage}
use Rattle.tuple_writes.specs.Writes.{with_root, with_replaced, with_updated, replaced_change}
use Rattle.heap_pages.specs.Choice.{IsPlaceFor, HasRoom, NoPage}
use Rattle.heap_pages.specs.declared.pages.Placement.TheVariants.{Page, NewPage}
use Rattle.table_indexes.specs.Indexes.{SameValues, SameEntries, Enters}
use Rattle.heap_write.specs.Heap.{HeapView, page_on, Keeps, ChangesOnePage, PutsSlots}
use Rattle.tuple_header.specs.declared.version.TheConstants.{MOST_SLOTS}
use Rattle.write_ids.specs.Ids.{NeedsFreeze, TakesIds}

-- Places.

-- all pages that there may be are in use, and none has room
pub record TableIsFull (h : HeapView) (size : ℕ) : Type 0 where
  pub all_used : h.max_pages ≤ length h.pages.pages
  pub no_room : NoPage h.pages.pages (HasRoom size)

-- a new version of this size goes to the page of this number: to one that is in use, or to a new one after all others
pub data GoesTo (h : HeapView) (size n : ℕ) : Type 0 where
  to_page : IsPlaceFor h.pages.pages h.max_pages size (Page n) → GoesTo h size n
  to_new : IsPlaceFor h.pages.pages h.max_pages size NewPage → n ≡ length h.pages.pages → GoesTo h size n

-- Changes of a page and the indexes.

-- x makes a version of the row as a root on page n, with an entry for it in each index
pub record PutsRoot (h h' : HeapView) (updated : Bool) (x : ℕ) (row : Row) (n : ℕ) : Type 0 where
  pub put : PutsSlots h.pages h'.pages n (with_root (page_on h n).slots updated x n row) (next_change (page_on h n).change)
  pub within : free_number (page_on h n).slots ≤ MOST_SLOTS
  pub entries : Enters h.indexes h'.indexes row (record { page = n; slot = free_number (page_on h n).slots })

-- x takes the version at a place away, and its successor is at another, or at its own where it has none; no entry changes
pub record SetsXmax (h h' : HeapView) (place : Tid) (x : ℕ) (successor : Tid) : Type 0 where
  pub put : PutsSlots h.pages h'.pages place.page (with_replaced (page_on h place.page).slots place.slot x successor.page successor.slot false)
      (replaced_change (page_on h place.page).slots place.slot x successor.page successor.slot false (page_on h place.page).change)
  pub entries : SameEntries h.indexes h'.indexes

-- x replaces the version at a place by a heap-only one of this row on the same page; no entry changes
pub record HotUpdates (h h' : HeapView) (place : Tid) (x : ℕ) (row : Row) : Type 0 where
  pub put : PutsSlots h.pages h'.pages place.page (with_updated (page_on h place.page).slots place.slot x place.page row)
      (replaced_change (page_on h place.page).slots place.slot x place.page (free_number (page_on h place.page).slots) true (next_change (page_on h place.page).change))
  pub within : free_number (page_on h place.page).slots ≤ MOST_SLOTS
  pub entries : SameEntries h.indexes h'.indexes

-- x replaces the version at a place by a root of this row on page n, which is its successor
pub record ColdUpdates (h h' : HeapView) (place : Tid) (x : ℕ) (row : Row) (n : ℕ) : Type 0 where
  pub middle : HeapView
  pub root : PutsRoot h middle true x row n
  pub away : SetsXmax middle h' place x (record { page = n; slot = free_number (page_on h n).slots })

-- one page is pruned at a horizon, and nothing else changes
abbrev pub Prunes : HeapView → HeapView → (number horizon : ℕ) → Type 0
Prunes h h' number horizon = ChangesOnePage h h' number (λ before after. IsPrunedPage h.statuses horizon before after)

-- What a plan names is done to one page, where it checks at the horizon, and nothing else changes: nothing is noted anew, and no entry
-- goes or comes.
abbrev pub Applies : HeapView → HeapView → (number horizon change : ℕ) → List (ℕ × Action) → Type 0
Applies h h' number horizon change actions =
    ChangesOnePage h h' number (λ before after. Checks h.statuses horizon before change actions × (after ≡ applied actions before))

-- Writes.

-- a version of the row is inserted by who has these ids, under x
pub record Inserts (h h' : HeapView) (own own' : Own) (row : Row) (x : ℕ) : Type 0 where
  pub free : ¬ NeedsFreeze h.statuses own
  pub takes_ids : TakesIds h.statuses h'.statuses own own' x
  pub number : ℕ
  pub goes_to : GoesTo h (rounded_size_of row) number
  pub root : PutsRoot h h' false x row number
  pub max_pages : h'.max_pages ≡ h.max_pages

-- pruning its page at a horizon would take the version at a place away
pub record WouldGo (h : HeapView) (place : Tid) (horizon : ℕ) : Type 0 where
  pub action : Action
  pub does : PrunesSlot h.statuses horizon (page_on h place.page).slots place.slot (Some action)

-- The page of the old version is pruned where the row has no room on it, when there may be more memory. But it is left as it is
-- where the version would go with that.
pub data PrunesIfFull (h h' : HeapView) (place : Tid) (horizon : Id) (size : Count) : Type 0 where
  has_room : size ≤ room_of (page_on h place.page).slots → h' ≡ h → PrunesIfFull h h' place horizon size
  is_pruned : room_of (page_on h place.page).slots < size → (grown : HeapView) → Keeps h grown → Prunes grown h' place.page horizon
      → PrunesIfFull h h' place horizon size
  is_left : room_of (page_on h place.page).slots < size → WouldGo h place horizon → Keeps h h' → PrunesIfFull h h' place horizon size

-- in each index in use the row has the value that the version at a place has
abbrev pub KeepsValues : HeapView → Tid → Row → Type 0
KeepsValues h place row = (old : Row) → row_at (page_on h place.page).slots place.slot ≡ Some old → SameValues h.indexes old row

-- x replaces the version at a place by one of this row on the same page: heap-only where no value in an index changes, else a root
pub data UpdatesOnPage (h h' : HeapView) (place : Tid) (x : ℕ) (row : Row) : Type 0 where
  heap_only : KeepsValues h place row → HotUpdates h h' place x row → UpdatesOnPage h h' place x row
  as_root : ¬ KeepsValues h place row → ColdUpdates h h' place x row place.page → UpdatesOnPage h h' place x row

-- x replaces the version at a place by one of this row: on the same page where it has room there, else as a root elsewhere
pub data Replaces (h h' : HeapView) (place : Tid) (x : ℕ) (row : Row) : Type 0 where
  on_page : rounded_size_of row ≤ room_of (page_on h place.page).slots → UpdatesOnPage h h' place x row → Replaces h h' place x row
  elsewhere : room_of (page_on h place.page).slots < rounded_size_of row → (number : ℕ) → number ≢ place.page → GoesTo h (rounded_size_of row) number
      → ColdUpdates h h' place x row number → Replaces h h' place x row

-- the version at a place is updated to this row
pub record Updates (h h' : HeapView) (own own' : Own) (place : Tid) (row : Row) (horizon x : ℕ) : Type 0 where
  pub free : ¬ NeedsFreeze h.statuses own
  pub takes_ids : TakesIds h.statuses h'.statuses own own' x
  pub ready : HeapView
  pub readies : PrunesIfFull h ready place horizon (rounded_size_of row)
  pub there : IsNormalAt (page_on ready place.page).slots place.slot
  pub replaces : Replaces ready h' place x row
  pub max_pages : h'.max_pages ≡ h.max_pages

-- the version at a place is deleted
pub record Deletes (h h' : HeapView) (own own' : Own) (place : Tid) (x : ℕ) : Type 0 where
  pub free : ¬ NeedsFreeze h.statuses own
  pub takes_ids : TakesIds h.statuses h'.statuses own own' x
  pub there : IsNormalAt (page_on h place.page).slots place.slot
  pub away : SetsXmax h h' place x place
  pub max_pages : h'.max_pages ≡ h.max_pages
