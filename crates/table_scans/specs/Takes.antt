-- What a scan takes: how many rows, and where it is then.
use Rattle.std.specs.Prelude.{◌≡◌, ℕ, ◌+◌, ◌<◌, ◌≤◌, max, List, [], length, Option, Vec, MatchOption}
use Rattle.std.specs.declared.alloc.Global.{Global}
use Rattle.xid_circle.specs.Numbers.{Count, PageNo}
use Rattle.xid_circle.specs.declared.Tid.{Tid}
use Rattle.tuple_header.specs.declared.version.Row.{Row}
use Rattle.tuple_header.specs.declared.version.TheConstants.{MOST_SLOTS}
use Rattle.heap_pages.specs.declared.pages.TheConstants.{MOST_PAGES}
use Rattle.index_lookup.specs.declared.index_scan.IndexRange.{IndexRange}
use Rattle.table_scans.specs.declared.progress.Scan.{Scan}
use Rattle.table_scans.specs.declared.progress.Scan.TheVariants.{Index, Heap}
use Rattle.table_scans.specs.Scans.{Sight, NoneIsIn, ScansIndex, NoneToPageEnd, ScansHeap, start_of}

-- Nothing is seen any more, or something is.

-- in an index no row of the range; over the heap a scan goes past all pages and meets none
abbrev pub IsAtEnd : Sight → Scan → Type 0
IsAtEnd t (Index range) = NoneIsIn t range
IsAtEnd t (Heap from) = (to : Tid) × ScansHeap t from to [] × (length t.heap.pages.pages ≤ to.page)

-- a scan meets some row
abbrev pub MeetsSome : Sight → Scan → Type 0
MeetsSome t (Index range) = (left : IndexRange) × (rows : List Row) × ScansIndex t range left rows × (0 < length rows)
MeetsSome t (Heap from) = (to : Tid) × (rows : List Row) × ScansHeap t from to rows × (0 < length rows)

-- In an index.

-- as many as were asked for, or all
pub record TakesRows (t : Sight) (range left : IndexRange) (count : ℕ) (rows : List Row) : Type 0 where
  pub scans : ScansIndex t range left rows
  pub at_most : length rows ≤ count
  pub all : length rows < count → NoneIsIn t left

-- In the heap.

-- all rows from this place on, up to the end of its page
pub record TakesAll (t : Sight) (from : Tid) (rows : List Row) : Type 0 where
  pub scans : ScansHeap t from (start_of (from.page + 1)) rows
  -- a page has so many slots at most
  pub few : length rows ≤ MOST_SLOTS

-- a scan from the one place comes to another, on this page, and meets nothing
pub record ComesTo (t : Sight) (from : Tid) (page : PageNo) (at : Tid) : Type 0 where
  pub here : at.page ≡ page
  pub scans : ScansHeap t from at []

-- all of the first page that has any from this place on
pub record TakesPage (t : Sight) (from : Tid) (page : PageNo) (rows : List Row) : Type 0 where
  pub at : Tid
  pub comes : ComesTo t from page at
  pub scans : ScansHeap t at (start_of (page + 1)) rows
  pub few : length rows ≤ MOST_SLOTS

-- and that page's number; none where no page has any
abbrev pub TakesNextPage : Sight → Tid → Option (Vec Row Global × ℕ) → Type 0
TakesNextPage t from answer = MatchOption answer (IsAtEnd t (Heap from)) (λ found. (0 < length found.0.items) × (found.1 < MOST_PAGES) × TakesPage t from found.1 found.0.items)

-- up to so many of that page, and the place behind them
pub record TakesPart (t : Sight) (from : Tid) (most : ℕ) (rows : List Row) (to : Tid) : Type 0 where
  pub at : Tid
  pub comes : ComesTo t from to.page at
  pub scans : ScansHeap t at to rows
  pub at_most : length rows ≤ most
  -- they are fewer only where nothing is left on the page
  pub all : length rows < most → NoneToPageEnd t to

-- Either way.

-- the scan takes these rows when n are asked for, where 0 counts as 1, and is then here
abbrev pub Takes : Sight → Scan → Count → List Row → Scan → Type 0
Takes t (Index range) n rows after = (left : IndexRange) × (after ≡ Index left) × TakesRows t range left (max 1 n) rows
Takes t (Heap from) n rows after = (page : PageNo) × (after ≡ Heap (start_of (page + 1))) × TakesPage t from page rows

-- it takes so many at most, of a page too
abbrev pub TakesUpTo : Sight → Scan → Count → List Row → Scan → Type 0
TakesUpTo t (Index range) most rows after = (left : IndexRange) × (after ≡ Index left) × TakesRows t range left most rows
TakesUpTo t (Heap from) most rows after = (to : Tid) × (after ≡ Heap to) × TakesPart t from most rows to

-- there are some
pub record TakesSome (t : Sight) (scan : Scan) (n : ℕ) (rows : List Row) (after : Scan) : Type 0 where
  pub some : 0 < length rows
  pub takes : Takes t scan n rows after

-- or it is at its end
abbrev pub TakesNext : Sight → Scan → ℕ → Option (Vec Row Global × Scan) → Type 0
TakesNext t scan n answer = MatchOption answer (IsAtEnd t scan) (λ found. TakesSome t scan n found.0.items found.1)
