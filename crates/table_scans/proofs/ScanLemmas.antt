-- How scans go on, and what ends one.
use Rattle.std.proofs.Common.{◌≡◌, ℕ, zero, suc, ◌+◌, ◌<◌, ◌≤◌, List, [], ◌∷◌, ◌++◌, length, slice_get, Option, Some, None, refl, sym, ap, ◌∙◌, subst, arith}
use Rattle.std.specs.Option.{option_and_then}
use Rattle.std.proofs.lemmas.List.{length-append}
use Rattle.std.proofs.lemmas.Option.{none-some, slice_get_within}
use Rattle.xid_circle.specs.declared.Tid.{Tid}
use Rattle.tuple_header.specs.declared.version.Row.{Row}
use Rattle.tuple_header.specs.Version.{Version}
use Rattle.page_sheet.specs.declared.slot.Slot.{Slot}
use Rattle.page_sheet.specs.Slots.{version_of, version_at}
use Rattle.page_slots.specs.View.{PageView}
use Rattle.page_sheet.proofs.SlotLemmas.{version_at-none}
use Rattle.index_lookup.specs.declared.index_scan.IndexRange.{IndexRange}
use Rattle.index_lookup.specs.Pages.{slots_on}
use Rattle.index_lookup.specs.Walking.{IsSeenRow, NoneSeenFrom}
use Rattle.index_lookup.proofs.PageLists.{slots-there, slots-none}
use Rattle.heap_write.specs.Heap.{slots_of}
use Rattle.table_scans.specs.Scans.{Sight, ScansIndex, index_begins, index_goes_on, SeesRow, SeesNone, NoneToPageEnd, ScansHeap, heap_begins, heap_passes, heap_finds, heap_turns}

-- A row more is a row.

pub some-more : (rows : List Row) (row : Row) → 0 < length (rows ++ row ∷ [])
some-more rows row = let long = length-append rows (row ∷ []) in omega arith

pub no-rows : (rows : List Row) (count : ℕ) → length rows ≡ count → count ≡ 0 → rows ≡ []
no-rows [] count is none = refl
no-rows (row ∷ rows) count is none = absurd (omega arith)

-- A scan of an index that meets none leaves all.
pub all-left : {t : Sight} {range left : IndexRange} {rows : List Row} → ScansIndex t range left rows → length rows ≡ 0 → left ≡ range
all-left index_begins none = refl
all-left (index_goes_on before rows position row scans next) none = absurd (let more = some-more rows row in omega (arith, none, more))

-- A scan of the heap goes on from where one ended that met none.
pub heap-after : {t : Sight} {from to next : Tid} {rows : List Row} → ScansHeap t from to [] → ScansHeap t to next rows → ScansHeap t from next rows
heap-after h heap_begins = h
heap-after h (heap_passes p rows scans none) = heap_passes p rows (heap-after h scans) none
heap-after h (heap_finds p rows row scans shows) = heap_finds p rows row (heap-after h scans) shows
heap-after h (heap_turns p rows scans none) = heap_turns p rows (heap-after h scans) none

-- What a look at a slot of a page finds.

module _ (t : Sight) (p : Tid) (page : PageView) (at : slice_get t.heap.pages.pages p.page ≡ Some page) where
  slots-here : slots_on (slots_of t.heap) p.page ≡ page.slots
  slots-here = slots-there t.heap.pages.pages p.page page at

  pub row-shown : (row : Row) → IsSeenRow t.sees page.slots p.slot row → SeesRow t p row
  row-shown row is = subst (λ slots. IsSeenRow t.sees slots p.slot row) (sym slots-here) is

  pub none-shown : NoneSeenFrom t.sees page.slots p.slot → SeesNone t p
  none-shown none = subst (λ slots. NoneSeenFrom t.sees slots p.slot) (sym slots-here) none

  -- no row is found in slot 0
  pub not-first : (row : Row) → IsSeenRow t.sees page.slots p.slot row → 0 < p.slot
  not-first row is = by p.slot is.there
    where
      by : (n : ℕ) → version_at page.slots n ≡ Some is.version → 0 < n
      by zero there = absurd (none-some is.version there)
      by (suc n) there = omega arith

-- Where a page ends.

some-slot : (o : Option Slot) (v : Version) → option_and_then version_of o ≡ Some v → (slot : Slot) × (o ≡ Some slot)
some-slot None v is = absurd (none-some v is)
some-slot (Some slot) v is = (slot, refl)

-- a version is in one of the page's slots
slot-within : (slots : List Slot) (n : ℕ) (v : Version) → version_at slots n ≡ Some v → n ≤ length slots
slot-within slots zero v is = omega arith
slot-within slots (suc i) v is = let some = some-slot (slice_get slots i) v is in let within = slice_get_within slots i some.0 some.1 in omega arith

module _ (t : Sight) (p : Tid) where
  -- none behind the last slot
  pub none-behind : (page : PageView) → slice_get t.heap.pages.pages p.page ≡ Some page → length page.slots + 1 ≤ p.slot → NoneToPageEnd t p
  none-behind page at past n le v is =
      let there = slots-there t.heap.pages.pages p.page page at in
      let within = slot-within page.slots n v (ap (λ slots. version_at slots n) (sym there) ∙ is) in
      absurd (omega arith)

  -- none on a page that is not in use
  pub none-unused : slice_get t.heap.pages.pages p.page ≡ None → NoneToPageEnd t p
  none-unused none n le v is =
      let there = slots-none t.heap.pages.pages p.page none in
      absurd (version_at-none n v (ap (λ slots. version_at slots n) (sym there) ∙ is))
