-- A table: its pages, what became of each id, and its indexes.
use Rattle.std.specs.Prelude.{◌≡◌, ℕ, ◌<◌, ℤ, pos, false, List, [], ◌∷◌, ◌++◌, length, Some, slice_get, slice_set, slice_index_or}
use Rattle.tuple_header.specs.declared.version.Row.{Row}
use Rattle.page_sheet.specs.Placing.{no_places}
use Rattle.page_slots.specs.View.{PageView}
use Rattle.page_sheet.specs.declared.slot.Slot.{Slot}
use Rattle.space_maps.specs.declared.mark.Mark.TheVariants.{Nothing}
use Rattle.commit_status.specs.Window.{Window}
use Rattle.heap_pages.specs.View.{PagesView}
use Rattle.index_lookup.specs.Pages as lists
use Rattle.table_indexes.specs.Indexes.{IndexesView, SameEntries}
use Rattle.write_ids.specs.Ids.{SameIds}

pub record HeapView : Type 0 where
  pub pages : PagesView
  pub statuses : Window
  -- by their numbers: each one in use has an entry for the root of each chain
  pub indexes : IndexesView
  -- how many pages may be in use
  pub max_pages : ℕ

abbrev pub slots_of : HeapView → List (List Slot)
slots_of h = lists.page_slots_of h.pages

-- the value of a row in the index by key
abbrev pub key_value : Row → ℤ
key_value row = pos row.key

-- a page that is not in use: it has no slots, and was never changed
abbrev pub unused_page : PageView
unused_page = record { slots = []; change = 0; flag = false; places = no_places }

abbrev pub page_on : HeapView → ℕ → PageView
page_on h n = slice_index_or h.pages.pages n unused_page

-- Changes.

-- all is as it was, though there may be more memory
pub record Keeps (h h' : HeapView) : Type 0 where
  pub pages : h'.pages.pages ≡ h.pages.pages
  pub marks : h'.pages.marks ≡ h.pages.marks
  pub statuses : SameIds h.statuses h'.statuses
  pub entries : SameEntries h.indexes h'.indexes
  pub max_pages : h'.max_pages ≡ h.max_pages

-- the page of this number changes so, from what it was before to what it is after, and nothing else changes
pub record ChangesOnePage (h h' : HeapView) (n : ℕ) (So : PageView → PageView → Type 0) : Type 0 where
  pub before : PageView
  pub after : PageView
  pub at : slice_get h.pages.pages n ≡ Some before
  pub is : h' ≡ record h { pages = record h.pages { pages = slice_set h.pages.pages n after } }
  pub does : So before after

-- This becomes the page of the number, in the place of one that is in use or after all others. Nothing is noted of it any more. No
-- other page changes, nor what is noted of one. (The manual's "Visibility Map".)
pub data PutsPage (pages pages' : PagesView) (n : ℕ) (page : PageView) : Type 0 where
  in_use : n < length pages.pages → pages'.pages ≡ slice_set pages.pages n page → pages'.marks ≡ slice_set pages.marks n Nothing
      → PutsPage pages pages' n page
  after_all : n ≡ length pages.pages → pages'.pages ≡ pages.pages ++ page ∷ [] → pages'.marks ≡ pages.marks ++ Nothing ∷ []
      → PutsPage pages pages' n page

-- a page with these slots and this change number is put at the number, and is not flagged
pub record PutsSlots (pages pages' : PagesView) (n : ℕ) (slots_now : List Slot) (change_now : ℕ) : Type 0 where
  pub page : PageView
  pub puts : PutsPage pages pages' n page
  pub slots : page.slots ≡ slots_now
  pub change : page.change ≡ change_now
  pub flag : page.flag ≡ false
