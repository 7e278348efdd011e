-- Which rows a scan meets on its way, for a reader: along an index, and over the heap.
use Rattle.std.specs.Prelude.{ℕ, ◌+◌, ◌≤◌, List, [], ◌∷◌, ◌++◌, Some}
use Rattle.xid_circle.specs.Numbers.{PageNo, SlotNo}
use Rattle.xid_circle.specs.declared.Tid.{Tid}
use Rattle.tuple_header.specs.declared.version.Header.{Header}
use Rattle.tuple_header.specs.declared.version.Row.{Row}
use Rattle.commit_status.specs.Window.{Window}
use Rattle.visibility.specs.declared.reader.Reader.{Reader}
use Rattle.visibility.specs.Reading.{IsSeenBy}
use Rattle.index_lookup.specs.declared.index_scan.IndexPosition.{IndexPosition}
use Rattle.index_lookup.specs.declared.index_scan.IndexRange.{IndexRange}
use Rattle.index_lookup.specs.Pages.{slots_on}
use Rattle.index_lookup.specs.Walking.{IsNextRow, NoneLeft, IsSeenRow, NoneSeenFrom}
use Rattle.table_indexes.specs.Indexes.{entries_in}
use Rattle.heap_write.specs.Heap.{HeapView, slots_of}

-- a table, and what a reader sees of it
pub record Sight : Type 1 where
  pub heap : HeapView
  -- what became of each id
  pub statuses : Window
  -- which versions are seen, by their headers
  pub sees : Header → Type 0

abbrev pub sight_of : HeapView → Reader → Sight
sight_of h r = record { heap = h; statuses = r.statuses.now; sees = IsSeenBy r }

-- Along an index.

-- the first row of the range that is seen, and its place in the order
abbrev pub IsNextIn : Sight → IndexRange → IndexPosition → Row → Type 0
IsNextIn t range position row = IsNextRow t.statuses t.sees (slots_of t.heap) (entries_in t.heap.indexes range.index) range position row

-- no row of the range is seen
abbrev pub NoneIsIn : Sight → IndexRange → Type 0
NoneIsIn t range = NoneLeft t.statuses t.sees (slots_of t.heap) (entries_in t.heap.indexes range.index) range

-- a scan of the range meets these rows, one after another, and this is left of it
pub data ScansIndex (t : Sight) (range : IndexRange) : IndexRange → List Row → Type 0 where
  index_begins : ScansIndex t range range []
  index_goes_on : (left : IndexRange) (rows : List Row) (position : IndexPosition) (row : Row) → ScansIndex t range left rows → IsNextIn t left position row
      → ScansIndex t range (record left { last = Some position }) (rows ++ row ∷ [])

-- Over the heap.

-- the version at the place is seen, and has this row
abbrev pub SeesRow : Sight → Tid → Row → Type 0
SeesRow t p row = IsSeenRow t.sees (slots_on (slots_of t.heap) p.page) p.slot row

-- none is seen there
abbrev pub SeesNone : Sight → Tid → Type 0
SeesNone t p = NoneSeenFrom t.sees (slots_on (slots_of t.heap) p.page) p.slot

-- a place on the same page
abbrev pub slot_on : Tid → SlotNo → Tid
slot_on p n = record { page = p.page; slot = n }

-- the place before all slots of a page
abbrev pub start_of : PageNo → Tid
start_of page = record { page = page; slot = 0 }

-- none is seen from the place on, up to the end of its page
abbrev pub NoneToPageEnd : Sight → Tid → Type 0
NoneToPageEnd t p = (n : ℕ) → p.slot ≤ n → SeesNone t (slot_on p n)

-- a scan from the one place up to the other meets these rows, slot by slot, and goes to the next page where nothing is left on one
pub data ScansHeap (t : Sight) (from : Tid) : Tid → List Row → Type 0 where
  heap_begins : ScansHeap t from from []
  heap_passes : (p : Tid) (rows : List Row) → ScansHeap t from p rows → SeesNone t p → ScansHeap t from (slot_on p (p.slot + 1)) rows
  heap_finds : (p : Tid) (rows : List Row) (row : Row) → ScansHeap t from p rows → SeesRow t p row → ScansHeap t from (slot_on p (p.slot + 1)) (rows ++ row ∷ [])
  heap_turns : (p : Tid) (rows : List Row) → ScansHeap t from p rows → NoneToPageEnd t p → ScansHeap t from (start_of (p.page + 1)) rows
