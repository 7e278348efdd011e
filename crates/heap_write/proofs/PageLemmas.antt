-- The pages of a table by their numbers, and what keeps them.
use Rattle.std.proofs.Common.{◌≡◌, ◌≢◌, ℕ, zero, suc, ◌<◌, inl, inr, List, [], length, map, set, Some, None, slice_get, sym, ap, subst, refl, ◌∙◌}
use Rattle.std.proofs.lemmas.Bool.{cases_lt, true≢false}
use Rattle.std.proofs.lemmas.Option.{slice_get-get_or, slice_get_within, get_or_from_slice_get, same_Some}
use Rattle.std.proofs.lemmas.List.{get_or_past, get_or-set_same, get_or-set_other, set-get_or}
use Rattle.xid_circle.specs.declared.Tid.{Tid}
use Rattle.page_slots.specs.View.{PageView}
use Rattle.heap_pages.specs.View.{PagesView, with_page}
use Rattle.page_sheet.specs.Slots.{IsNormalAt, row_at, room_of}
use Rattle.table_indexes.specs.Indexes.{SameEntries}
use Rattle.table_indexes.proofs.Columns.{entries-then}
use Rattle.table_indexes.proofs.IndexLemmas.{same-entries}
use Rattle.heap_write.specs.Heap.{HeapView, unused_page, slots_of, Keeps}
use Rattle.write_ids.specs.Ids.{SameIds}
use Rattle.tuple_header.specs.declared.version.Row.{Row}
use Rattle.heap_write.specs.Writes.{KeepsValues}
use Rattle.heap_write.specs.Refusals.{VersionIsThere}
use Rattle.heap_write.specs.Growth.{page_in, SamePages}

-- The page of a number.

pub page-at : (pages : List PageView) (n : ℕ) (page : PageView) → slice_get pages n ≡ Some page → page_in pages n ≡ page
page-at pages n page at =
    same_Some (page_in pages n) page (sym (slice_get-get_or pages n unused_page (slice_get_within pages n page at)) ∙ at)

pub page-none : (pages : List PageView) (n : ℕ) → slice_get pages n ≡ None → page_in pages n ≡ unused_page
page-none pages n none =
    elim (cases_lt n (length pages)) [
      | inl within ↦ absurd (let e : Some (page_in pages n) ≡ None = sym (slice_get-get_or pages n unused_page within) ∙ none in cc)
      | inr past ↦ get_or_past pages n unused_page past
    ]

-- No version is on a page that is not in use.

nothing-at : (slot : ℕ) → ¬ IsNormalAt [] slot
nothing-at zero h = true≢false (sym h)
nothing-at (suc i) h = true≢false (sym h)

pub nothing-there : (h : HeapView) (place : Tid) → slice_get h.pages.pages place.page ≡ None → ¬ VersionIsThere h place
nothing-there h place none there =
    nothing-at place.slot (subst (λ (p : PageView). IsNormalAt p.slots place.slot) (page-none h.pages.pages place.page none) there)

no-row : (slot : ℕ) (old : Row) → row_at [] slot ≢ Some old
no-row zero old = λ e. cc
no-row (suc i) old = λ e. cc

pub keeps-nothing : (h : HeapView) (place : Tid) (row : Row) → slice_get h.pages.pages place.page ≡ None → KeepsValues h place row
keeps-nothing h place row none old at =
    absurd (no-row place.slot old (ap (λ (p : PageView). row_at p.slots place.slot) (sym (page-none h.pages.pages place.page none)) ∙ at))

pub there-within : (h : HeapView) (place : Tid) → VersionIsThere h place → place.page < length h.pages.pages
there-within h place there =
    elim (cases_lt place.page (length h.pages.pages)) [
      | inl within ↦ within
      | inr past ↦ absurd (nothing-at place.slot (subst (λ (p : PageView). IsNormalAt p.slots place.slot) (get_or_past h.pages.pages place.page unused_page past) there))
    ]

pub there-at : (h : HeapView) (place : Tid) (page : PageView) → VersionIsThere h place → slice_get h.pages.pages place.page ≡ Some page → IsNormalAt page.slots place.slot
there-at h place page there at = subst (λ (p : PageView). IsNormalAt p.slots place.slot) (page-at h.pages.pages place.page page at) there

pub room-none : (pages : List PageView) (n : ℕ) → slice_get pages n ≡ None → room_of (page_in pages n).slots ≡ 8164
room-none pages n none = ap (λ (p : PageView). room_of p.slots) (page-none pages n none)

-- Pages that have the same in them.

pub same-pages : (pages : PagesView) → SamePages pages pages
same-pages pages = record { pages = refl; marks = refl }

pub keeps : (h h' : HeapView) → SamePages h.pages h'.pages → SameIds h.statuses h'.statuses → SameEntries h.indexes h'.indexes → h'.max_pages ≡ h.max_pages → Keeps h h'
keeps h h' same ids entries max_pages = record {
  pages = same.pages;
  marks = same.marks;
  statuses = ids;
  entries = entries;
  max_pages = max_pages;
}

-- the slots of all pages
pub slots-kept : (h h' : HeapView) → Keeps h h' → slots_of h' ≡ slots_of h
slots-kept h h' same = ap (λ (pages : List PageView). map (λ (page : PageView). page.slots) pages) same.pages

pub keeps-all : (h : HeapView) → Keeps h h
keeps-all h = keeps h h (same-pages h.pages) (record { first = refl; stop_age = refl; entries = refl }) (same-entries h.indexes h.indexes refl) refl

pub keeps-then : (h h1 h2 : HeapView) → Keeps h h1 → Keeps h1 h2 → Keeps h h2
keeps-then h h1 h2 first second = record {
  pages = second.pages ∙ first.pages;
  marks = second.marks ∙ first.marks;
  statuses = record { first = second.statuses.first ∙ first.statuses.first; stop_age = second.statuses.stop_age ∙ first.statuses.stop_age; entries = second.statuses.entries ∙ first.statuses.entries };
  entries = entries-then h.indexes h1.indexes h2.indexes first.entries second.entries;
  max_pages = second.max_pages ∙ first.max_pages;
}

-- A page in the place of another.

pub page-set : (pages : List PageView) (n : ℕ) (page : PageView) → n < length pages → page_in (set pages n page) n ≡ page
page-set pages n page within = get_or-set_same pages n page unused_page within

pub page-set_other : (pages : List PageView) (n m : ℕ) (page : PageView) → m ≢ n → page_in (set pages n page) m ≡ page_in pages m
page-set_other pages n m page other = get_or-set_other pages n m page unused_page other

-- all is as it was on a table whose view is known
pub keeps-viewed : (v h h' : HeapView) → v ≡ h → SamePages v.pages h'.pages → SameIds v.statuses h'.statuses → SameEntries v.indexes h'.indexes → h'.max_pages ≡ v.max_pages → Keeps h h'
keeps-viewed v h h' view_is same ids entries max_pages = subst (λ u. Keeps u h') view_is (keeps v h' same ids entries max_pages)

-- a page in its own place
pub page-back : (p : PagesView) (n : ℕ) (page : PageView) → slice_get p.pages n ≡ Some page → with_page p n page ≡ p
page-back p n page at =
    ap (λ (pages : List PageView). record p { pages = pages })
    (ap (λ q. set p.pages n q) (sym (get_or_from_slice_get p.pages n page page at)) ∙ set-get_or p.pages n page)
