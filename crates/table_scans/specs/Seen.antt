-- Which rows of a page a reader sees.
use Rattle.std.specs.Prelude.{◌≡◌, ◌<◌, List, length, Some, slice_get}
use Rattle.xid_circle.specs.Numbers.{PageNo}
use Rattle.tuple_header.specs.declared.version.Row.{Row}
use Rattle.page_slots.specs.View.{PageView}
use Rattle.visibility.specs.declared.reader.Reader.{Reader}
use Rattle.heap_write.specs.Heap.{HeapView}
use Rattle.table_scans.specs.Scans.{sight_of, start_of}
use Rattle.table_scans.specs.Takes.{TakesAll}

-- whatever table the page is of, they are all that the reader sees on it, slot by slot
abbrev pub AreSeenOn : PageView → Reader → List Row → Type 0
AreSeenOn page reader rows = (h : HeapView) (number : PageNo) → slice_get h.pages.pages number ≡ Some page
    → TakesAll (sight_of h reader) (start_of number) rows

-- and it sees some
abbrev pub SeesSome : PageView → Reader → Type 0
SeesSome page reader = (rows : List Row) × AreSeenOn page reader rows × (0 < length rows)
