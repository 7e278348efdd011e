-- Rows are written to places on a scan, row by row.
use Rattle.std.proofs.Common.{◌≡◌, ℕ, zero, suc, ◌+◌, ◌<◌, ◌≤◌, max, List, [], ◌∷◌, ◌++◌, length, set, get_or, Some, None, slice_get, refl, sym, ap, ◌∙◌, subst, arith}
use Rattle.std.proofs.lemmas.List.{length-append}
use Rattle.xid_circle.specs.declared.Tid.{Tid}
use Rattle.tuple_header.specs.declared.row_place.RowPlace.{RowPlace}
use Rattle.tuple_header.specs.declared.version.Row.{Row}
use Rattle.tuple_header.specs.Places.{place_with, places_with}
use Rattle.tuple_header.proofs.PlaceLemmas.{places-length, places-push}
use Rattle.page_slots.specs.View.{PageView}
use Rattle.index_lookup.specs.declared.index_scan.IndexPosition.{IndexPosition}
use Rattle.index_lookup.specs.declared.index_scan.IndexRange.{IndexRange}
use Rattle.table_scans.specs.declared.progress.Scan.TheVariants.{Index, Heap}
use Rattle.table_scans.specs.Scans.{Sight, IsNextIn, NoneIsIn, SeesRow, SeesNone, slot_on, start_of, ScansHeap, heap_begins, heap_passes, heap_finds, heap_turns}
use Rattle.table_scans.specs.Takes.{ComesTo}
use Rattle.table_scans.specs.Puts.{HasPut, PutsNext, PutsOfIndex, PutsOfHeap, PutsOfPage}
use Rattle.table_scans.proofs.ScanLemmas.{no-rows, none-behind, none-unused}
use Rattle.table_scans.proofs.TakeLemmas.{HasMet, none-met, one-met, all-met, full-met, none-taken, bare-passed, all-passed}

-- within a list it doesn't matter what would be behind it
get_or-same : (xs : List RowPlace) (i : ℕ) (d d' : RowPlace) → i < length xs → get_or xs i d ≡ get_or xs i d'
get_or-same [] i d d' within = absurd (omega arith)
get_or-same (x ∷ xs) zero d d' within = refl
get_or-same (x ∷ xs) (suc i) d d' within = get_or-same xs i d d' (omega arith)

-- one row more is written
pub put-one : (places : List RowPlace) (count : ℕ) (after : List RowPlace) (rows : List Row) (row : Row) (d new : RowPlace) → HasPut places count after rows → count < length places
    → new ≡ place_with row (get_or after count d) → HasPut places (count + 1) (set after count new) (rows ++ row ∷ [])
put-one places count after rows row d new h room is = record {
  number = length-append rows (row ∷ []) ∙ ap (λ n. n + 1) h.number;
  written = ap (set after count) is
      ∙ (ap (λ ps. set ps count (place_with row (get_or ps count d))) h.written
      ∙ (ap (λ n. set (places_with rows places) n (place_with row (get_or (places_with rows places) n d))) (sym h.number)
      ∙ places-push rows places row (get_or (places_with rows places) (length rows) d) within
      (get_or-same (places_with rows places) (length rows) d (get_or (places_with rows places) (length rows) d) (omega (arith, within, places-length rows places)))));
}
  where
    within : length rows < length places
    within = (let number = h.number in omega arith)

-- Along an index.

-- so many rows were met, and written to the first places
pub record HasPutMet (t : Sight) (range left : IndexRange) (count : ℕ) (places after : List RowPlace) : Type 0 where
  pub rows : List Row
  pub put : HasPut places count after rows
  pub met : HasMet t range left count rows

pub none-put_met : (t : Sight) (range : IndexRange) (places : List RowPlace) → HasPutMet t range range 0 places places
none-put_met t range places = record { rows = []; put = record { number = refl; written = refl }; met = none-met t range }

module _ (t : Sight) (range left : IndexRange) (count : ℕ) (places after : List RowPlace) (h : HasPutMet t range left count places after) where
  pub one-put : (position : IndexPosition) (row : Row) (d new : RowPlace) → IsNextIn t left position row → count < length places → new ≡ place_with row (get_or after count d)
      → HasPutMet t range (record left { last = Some position }) (count + 1) places (set after count new)
  one-put position row d new next room is = record {
    rows = h.rows ++ row ∷ [];
    put = put-one places count after h.rows row d new h.put room is;
    met = one-met t range left count h.rows h.met position row next;
  }

  pub all-put : count ≤ length places → NoneIsIn t left → PutsOfIndex t range places count left after
  all-put within none = record { rows = h.rows; put = h.put; takes = all-met t range left count h.rows h.met (length places) within none }

  pub full-put : count ≡ length places → PutsOfIndex t range places count left after
  full-put full = record { rows = h.rows; put = h.put; takes = full-met t range left count h.rows h.met (length places) full }

-- On a page.

-- so many rows were met up to this slot, and written to the first places
pub record HasPutOn (t : Sight) (from : Tid) (places : List RowPlace) (slot end count : ℕ) (after : List RowPlace) : Type 0 where
  pub rows : List Row
  pub put : HasPut places count after rows
  pub scans : ScansHeap t from (slot_on from slot) rows
  pub above : from.slot ≤ slot
  pub within : slot ≤ max from.slot end
  pub room : count < length places

pub puts-none : (t : Sight) (from : Tid) (places : List RowPlace) (end : ℕ) → 0 < length places → HasPutOn t from places from.slot end 0 places
puts-none t from places end some = record {
  rows = [];
  put = record { number = refl; written = refl };
  scans = heap_begins;
  above = omega arith;
  within = omega arith;
  room = some;
}

module _ (t : Sight) (from : Tid) (places : List RowPlace) (slot end count : ℕ) (after : List RowPlace) (h : HasPutOn t from places slot end count after) where
  pub puts-pass : slot < end → SeesNone t (slot_on from slot) → HasPutOn t from places (slot + 1) end count after
  puts-pass less none = record {
    rows = h.rows;
    put = h.put;
    scans = heap_passes (slot_on from slot) h.rows h.scans none;
    above = (let above = h.above in omega arith);
    within = omega arith;
    room = h.room;
  }

  module _ (row : Row) (d new : RowPlace) (less : slot < end) (shows : SeesRow t (slot_on from slot) row) (is : new ≡ place_with row (get_or after count d)) where
    -- and there is place for another
    pub puts-one : count + 1 < length places → HasPutOn t from places (slot + 1) end (count + 1) (set after count new)
    puts-one more = record {
      rows = h.rows ++ row ∷ [];
      put = put-one places count after h.rows row d new h.put h.room is;
      scans = heap_finds (slot_on from slot) h.rows row h.scans shows;
      above = (let above = h.above in omega arith);
      within = omega arith;
      room = more;
    }

    -- or there is none
    pub puts-last : count + 1 ≡ length places → PutsOfPage t from places (count + 1) (slot + 1) (set after count new)
    puts-last full = record {
      rows = h.rows ++ row ∷ [];
      put = put-one places count after h.rows row d new h.put h.room is;
      scans = heap_finds (slot_on from slot) h.rows row h.scans shows;
      at_most = (let put = h.put.number in let long = length-append h.rows (row ∷ []) in omega arith);
      all = λ less. absurd (let put = h.put.number in let long = length-append h.rows (row ∷ []) in omega arith);
    }

  -- the page has no more
  pub puts-all : (page : PageView) → slice_get t.heap.pages.pages from.page ≡ Some page → length page.slots + 1 ≡ end → end ≤ slot → PutsOfPage t from places count (max from.slot end) after
  puts-all page at count' past =
      let same : slot ≡ max from.slot end = (let above = h.above in let within = h.within in omega arith) in record {
        rows = h.rows;
        put = h.put;
        scans = subst (λ n. ScansHeap t from (slot_on from n) h.rows) same h.scans;
        at_most = (let put = h.put.number in let room = h.room in omega arith);
        all = λ less. none-behind t (slot_on from (max from.slot end)) page at (omega arith);
      }

pub puts-unused : (t : Sight) (from : Tid) (places : List RowPlace) → slice_get t.heap.pages.pages from.page ≡ None → PutsOfPage t from places 0 from.slot places
puts-unused t from places none = record {
  rows = [];
  put = record { number = refl; written = refl };
  scans = heap_begins;
  at_most = omega arith;
  all = λ less. none-unused t from none;
}

-- From page to page.

module _ (t : Sight) (from : Tid) (page : ℕ) (at : Tid) (h : ComesTo t from page at) (places : List RowPlace) (some : 0 < length places) where
  -- this one has none either, and nothing was written
  pub none-put : (slot count : ℕ) (after : List RowPlace) → PutsOfPage t at places count slot after → count ≡ 0 → ComesTo t from (page + 1) (start_of (page + 1)) × (after ≡ places)
  none-put slot count after puts none =
      let empty = no-rows puts.rows count puts.put.number none in
      let scans = subst (ScansHeap t at (slot_on at slot)) empty puts.scans in (
        bare-passed t from page at h (heap_turns (slot_on at slot) [] scans (puts.all (subst (λ (rows : List Row). length rows < length places) (sym empty) some))),
        puts.put.written ∙ ap (λ rows. places_with rows places) empty,
      )

  -- it has some
  pub some-put : (slot count : ℕ) (after : List RowPlace) → PutsOfPage t at places count slot after → 0 < count → PutsOfHeap t from places count (record { page = page; slot = slot }) after
  some-put slot count after puts above = record {
    rows = puts.rows;
    put = puts.put;
    at_end = λ none. absurd (omega arith);
    takes = λ _. record {
      at = at;
      comes = h;
      scans = subst (λ n. ScansHeap t at (record { page = n; slot = slot }) puts.rows) h.here puts.scans;
      at_most = puts.at_most;
      all = λ less n le. subst (λ m. SeesNone t (record { page = m; slot = n })) h.here (puts.all less n le);
    };
  }

  -- no page in use is left
  pub none-left : length t.heap.pages.pages ≤ page → PutsOfHeap t from places 0 at places
  none-left all = record {
    rows = [];
    put = record { number = refl; written = refl };
    at_end = λ _. all-passed t from page at h all;
    takes = λ above. absurd (omega arith);
  }

-- Either way.

module _ (t : Sight) (places : List RowPlace) (count : ℕ) (after : List RowPlace) where
  pub next-of_index : (range left : IndexRange) → 0 < length places → PutsOfIndex t range places count left after → PutsNext t (Index range) places count (Index left) after
  next-of_index range left some h = record {
    rows = h.rows;
    put = h.put;
    at_end = λ none. none-taken t range left (length places) h.rows h.takes (h.put.number ∙ none) some;
    takes = λ above. (left, refl, h.takes);
  }

  pub next-of_heap : (from to : Tid) → PutsOfHeap t from places count to after → PutsNext t (Heap from) places count (Heap to) after
  next-of_heap from to h = record {
    rows = h.rows;
    put = h.put;
    at_end = h.at_end;
    takes = λ above. (to, refl, h.takes above);
  }
