-- The pages of a table, as an index sees them: a place is a page's number, from 0, and a slot's, from 1.
use Rattle.std.specs.Prelude.{◌≡◌, ◌≢◌, ℕ, List, [], map, Option, slice_index_or}
use Rattle.xid_circle.specs.declared.Tid.{Tid}
use Rattle.tuple_header.specs.Version.{Version}
use Rattle.page_sheet.specs.declared.slot.Slot.{Slot}
use Rattle.page_sheet.specs.Slots.{slot_at, version_at}
use Rattle.heap_pages.specs.View.{PagesView}

abbrev pub page_slots_of : PagesView → List (List Slot)
page_slots_of p = map (λ page. page.slots) p.pages

-- the slots of the page of this number; where it is not in use, there are none
abbrev pub slots_on : List (List Slot) → ℕ → List Slot
slots_on pages n = slice_index_or pages n []

-- the slot at a place, and the version in it
abbrev pub slot_in : List (List Slot) → Tid → Option Slot
slot_in pages p = slot_at (slots_on pages p.page) p.slot

abbrev pub version_in : List (List Slot) → Tid → Option Version
version_in pages p = version_at (slots_on pages p.page) p.slot

-- these are the slots of one page now, and all other pages are as they were
pub record Puts (pages pages' : List (List Slot)) (n : ℕ) (after : List Slot) : Type 0 where
  pub put : slots_on pages' n ≡ after
  pub others : (m : ℕ) → m ≢ n → slots_on pages' m ≡ slots_on pages m
