-- A list of rows grows on a scan, row by row.
use Rattle.std.proofs.Common.{◌≡◌, ℕ, ◌+◌, ◌-◌, ◌<◌, ◌≤◌, List, [], ◌∷◌, ◌++◌, length, slice_get, Some, None, refl, ap, ◌∙◌, subst, arith}
use Rattle.std.proofs.lemmas.List.{length-append}
use Rattle.xid_circle.specs.declared.Tid.{Tid}
use Rattle.tuple_header.specs.declared.version.Row.{Row}
use Rattle.tuple_header.specs.declared.version.TheConstants.{MOST_SLOTS}
use Rattle.page_slots.specs.View.{PageView}
use Rattle.index_lookup.specs.declared.index_scan.IndexPosition.{IndexPosition}
use Rattle.index_lookup.specs.declared.index_scan.IndexRange.{IndexRange}
use Rattle.table_scans.specs.declared.progress.Scan.TheVariants.{Index, Heap}
use Rattle.table_scans.specs.Scans.{Sight, IsNextIn, NoneIsIn, ScansIndex, index_begins, index_goes_on, SeesRow, SeesNone, slot_on, start_of, ScansHeap, heap_begins, heap_passes, heap_finds, heap_turns}
use Rattle.table_scans.specs.Takes.{IsAtEnd, MeetsSome, TakesRows, TakesAll, ComesTo, TakesPage}
use Rattle.table_scans.proofs.ScanLemmas.{some-more, no-rows, all-left, heap-after, none-behind, none-unused}

-- Along an index.

-- so many rows are met
pub record HasMet (t : Sight) (range left : IndexRange) (count : ℕ) (rows : List Row) : Type 0 where
  pub scans : ScansIndex t range left rows
  pub met : length rows ≡ count

pub none-met : (t : Sight) (range : IndexRange) → HasMet t range range 0 []
none-met t range = record { scans = index_begins; met = refl }

module _ (t : Sight) (range left : IndexRange) (count : ℕ) (rows : List Row) (h : HasMet t range left count rows) where
  pub one-met : (position : IndexPosition) (row : Row) → IsNextIn t left position row → HasMet t range (record left { last = Some position }) (count + 1) (rows ++ row ∷ [])
  one-met position row next = record {
    scans = index_goes_on left rows position row h.scans next;
    met = length-append rows (row ∷ []) ∙ ap (λ n. n + 1) h.met;
  }

  -- there is a row to hand out, whether or not memory is
  pub meets-next : (position : IndexPosition) (row : Row) → IsNextIn t left position row → MeetsSome t (Index range)
  meets-next position row next = (record left { last = Some position }, rows ++ row ∷ [], index_goes_on left rows position row h.scans next, some-more rows row)

  -- none is left
  pub all-met : (most : ℕ) → count ≤ most → NoneIsIn t left → TakesRows t range left most rows
  all-met most within none = record {
    scans = h.scans;
    at_most = (let met = h.met in omega arith);
    all = λ fewer. none;
  }

  -- no more were asked for
  pub full-met : (most : ℕ) → count ≡ most → TakesRows t range left most rows
  full-met most full = record {
    scans = h.scans;
    at_most = (let met = h.met in omega arith);
    all = λ fewer. absurd (let met = h.met in omega arith);
  }

-- None is met: none is in the whole range.
pub none-taken : (t : Sight) (range left : IndexRange) (most : ℕ) (rows : List Row) → TakesRows t range left most rows → length rows ≡ 0 → 0 < most → IsAtEnd t (Index range)
none-taken t range left most rows h none some = subst (NoneIsIn t) (all-left h.scans none) (h.all (omega arith))

-- On a page.

-- the rows of the slots up to this one, of which the page has so many
pub record HasGathered (t : Sight) (from : Tid) (slot slots : ℕ) (rows : List Row) : Type 0 where
  pub scans : ScansHeap t from (slot_on from slot) rows
  pub below : length rows ≤ slot - 1
  pub few : length rows ≤ slots

pub gathers-none : (t : Sight) (from : Tid) (slots : ℕ) → HasGathered t from from.slot slots []
gathers-none t from slots = record { scans = heap_begins; below = omega arith; few = omega arith }

module _ (t : Sight) (from : Tid) (slot slots : ℕ) (rows : List Row) (h : HasGathered t from slot slots rows) where
  pub gathers-pass : SeesNone t (slot_on from slot) → HasGathered t from (slot + 1) slots rows
  gathers-pass none = record { scans = heap_passes (slot_on from slot) rows h.scans none; below = (let below = h.below in omega arith); few = h.few }

  pub gathers-one : (row : Row) → SeesRow t (slot_on from slot) row → 0 < slot → slot < slots + 1 → HasGathered t from (slot + 1) slots (rows ++ row ∷ [])
  gathers-one row shows above within =
      let below = h.below in let long = length-append rows (row ∷ []) in
      record { scans = heap_finds (slot_on from slot) rows row h.scans shows; below = omega arith; few = omega arith }

  -- there is a row to hand out, whether or not memory is
  pub meets-here : (row : Row) → SeesRow t (slot_on from slot) row → MeetsSome t (Heap from)
  meets-here row shows = (slot_on from (slot + 1), rows ++ row ∷ [], heap_finds (slot_on from slot) rows row h.scans shows, some-more rows row)

  pub gathers-all : (page : PageView) → slice_get t.heap.pages.pages from.page ≡ Some page → length page.slots ≡ slots → slots ≤ MOST_SLOTS → slots + 1 ≤ slot → TakesAll t from rows
  gathers-all page at count limit past = record {
    scans = heap_turns (slot_on from slot) rows h.scans (none-behind t (slot_on from slot) page at (omega arith));
    few = (let few = h.few in omega arith);
  }

-- a page that is not in use has none
pub gathers-unused : (t : Sight) (from : Tid) → slice_get t.heap.pages.pages from.page ≡ None → TakesAll t from []
gathers-unused t from none = record { scans = heap_turns from [] heap_begins (none-unused t from none); few = omega arith }

-- From page to page.

pub none-passed : (t : Sight) (from : Tid) → ComesTo t from from.page from
none-passed t from = record { here = refl; scans = heap_begins }

module _ (t : Sight) (from : Tid) (page : ℕ) (at : Tid) (h : ComesTo t from page at) where
  -- this page has none either
  pub bare-passed : ScansHeap t at (start_of (at.page + 1)) [] → ComesTo t from (page + 1) (start_of (page + 1))
  bare-passed scans = record { here = refl; scans = subst (λ n. ScansHeap t from (start_of (n + 1)) []) h.here (heap-after h.scans scans) }

  pub one-passed : (rows : List Row) → TakesAll t at rows → length rows ≡ 0 → ComesTo t from (page + 1) (start_of (page + 1))
  one-passed rows takes none = bare-passed (subst (ScansHeap t at (start_of (at.page + 1))) (no-rows rows 0 none refl) takes.scans)

  -- it has these
  pub taken-here : (rows : List Row) → TakesAll t at rows → TakesPage t from page rows
  taken-here rows takes = record {
    at = at;
    comes = h;
    scans = subst (λ n. ScansHeap t at (start_of (n + 1)) rows) h.here takes.scans;
    few = takes.few;
  }

  -- it has some, whether or not there is memory for them
  pub meets-later : MeetsSome t (Heap at) → MeetsSome t (Heap from)
  meets-later some = (some.0, some.1, heap-after h.scans some.2, some.3)

  -- no page in use is left
  pub all-passed : length t.heap.pages.pages ≤ page → IsAtEnd t (Heap from)
  all-passed all = (at, h.scans, (let here = h.here in omega arith))
