-- What is written to a caller's places on the way to the next rows of a scan.
use Rattle.std.specs.Prelude.{◌≡◌, ℕ, ◌<◌, ◌≤◌, List, length}
use Rattle.xid_circle.specs.declared.Tid.{Tid}
use Rattle.tuple_header.specs.declared.row_place.RowPlace.{RowPlace}
use Rattle.tuple_header.specs.declared.version.Row.{Row}
use Rattle.tuple_header.specs.Places.{places_with}
use Rattle.index_lookup.specs.declared.index_scan.IndexRange.{IndexRange}
use Rattle.table_scans.specs.declared.progress.Scan.{Scan}
use Rattle.table_scans.specs.declared.progress.KeyRange.{KeyRange}
use Rattle.table_scans.specs.declared.progress.CursorScan.{CursorScan}
use Rattle.table_scans.specs.declared.progress.CursorScan.TheVariants.{Rows, Keys}
use Rattle.table_scans.specs.Keys.{PutsKeys}
use Rattle.table_scans.specs.declared.progress.Scan.TheVariants.{Heap}
use Rattle.table_scans.specs.Scans.{Sight, NoneToPageEnd, ScansHeap, slot_on}
use Rattle.table_scans.specs.Takes.{IsAtEnd, TakesRows, TakesPart, TakesUpTo}

-- so many rows were written to the first places, and all others are as they were
pub record HasPut (places : List RowPlace) (count : ℕ) (after : List RowPlace) (rows : List Row) : Type 0 where
  pub number : length rows ≡ count
  pub written : after ≡ places_with rows places

-- some of the next, or none where the scan is at its end
pub record PutsNext (t : Sight) (scan : Scan) (places : List RowPlace) (count : ℕ) (to : Scan) (after : List RowPlace) : Type 0 where
  pub rows : List Row
  pub put : HasPut places count after rows
  pub at_end : count ≡ 0 → IsAtEnd t scan
  pub takes : 0 < count → TakesUpTo t scan (length places) rows to

-- of a range
pub record PutsOfIndex (t : Sight) (range : IndexRange) (places : List RowPlace) (count : ℕ) (left : IndexRange) (after : List RowPlace) : Type 0 where
  pub rows : List Row
  pub put : HasPut places count after rows
  pub takes : TakesRows t range left (length places) rows

-- of the first page that has any from this place on
pub record PutsOfHeap (t : Sight) (from : Tid) (places : List RowPlace) (count : ℕ) (to : Tid) (after : List RowPlace) : Type 0 where
  pub rows : List Row
  pub put : HasPut places count after rows
  pub at_end : count ≡ 0 → IsAtEnd t (Heap from)
  pub takes : 0 < count → TakesPart t from (length places) rows to

-- of the page of this place, from there up to a slot
pub record PutsOfPage (t : Sight) (from : Tid) (places : List RowPlace) (count slot : ℕ) (after : List RowPlace) : Type 0 where
  pub rows : List Row
  pub put : HasPut places count after rows
  pub scans : ScansHeap t from (slot_on from slot) rows
  pub at_most : length rows ≤ length places
  pub all : length rows < length places → NoneToPageEnd t (slot_on from slot)

-- of either kind of cursor
abbrev pub PutsOfCursor : Sight → CursorScan → List RowPlace → ℕ → CursorScan → List RowPlace → Type 0
PutsOfCursor t (Rows scan) places count to after = (left : Scan) × (to ≡ Rows left) × PutsNext t scan places count left after
PutsOfCursor t (Keys range) places count to after = (left : KeyRange) × (to ≡ Keys left) × PutsKeys t range places count left after
