-- What stands ready before a write changes anything: memory for ids and a page. (For entries: `HasEntries` of Indexes.)
use Rattle.std.specs.Prelude.{◌≡◌, ℕ, ◌<◌, ◌≤◌, Bool, false, List, [], length, Option, Some, None, slice_index_or}
use Rattle.tuple_header.specs.declared.version.Row.{Row}
use Rattle.page_slots.specs.View.{PageView}
use Rattle.page_sheet.specs.Slots.{room_of, free_number, next_change}
use Rattle.tuple_writes.specs.Writes.{with_root}
use Rattle.heap_pages.specs.View.{PagesView}
use Rattle.heap_pages.specs.declared.pages.Placement.{Placement}
use Rattle.heap_pages.specs.declared.pages.Placement.TheVariants as place
use Rattle.heap_write.specs.declared.target.Target.{Target}
use Rattle.heap_write.specs.declared.target.Target.TheVariants.{Page, New}
use Rattle.heap_write.specs.Heap.{unused_page, PutsSlots}
use Rattle.heap_pages.specs.declared.pages.TheConstants.{MOST_PAGES}
use Rattle.tuple_header.specs.declared.version.TheConstants.{MOST_SLOTS}

-- Pages.

-- the page of a number, or one that was never used
abbrev pub page_in : List PageView → ℕ → PageView
page_in pages n = slice_index_or pages n unused_page

-- all pages are as they were, and what is noted of them, though there may be memory for more
pub record SamePages (p p' : PagesView) : Type 0 where
  pub pages : p'.pages ≡ p.pages
  pub marks : p'.marks ≡ p.marks

-- Where a root is to go.

-- a page that was never used
pub record IsFreshPage (page : PageView) : Type 0 where
  pub slots : page.slots ≡ []
  pub change : page.change ≡ 0
  pub flag : page.flag ≡ false

abbrev pub target_number : List PageView → Target → ℕ
target_number pages (Page n) = n
target_number pages (New page) = length pages

-- a version of this size can be put there without memory
abbrev pub IsReserved : PagesView → ℕ → Target → Type 0
IsReserved pages size (Page n) = (n < length pages.pages) × (size ≤ room_of (page_in pages.pages n).slots)
IsReserved pages size (New page) = IsFreshPage page.value × (size ≤ room_of page.value.slots) × (0 < pages.spare) × (length pages.pages < MOST_PAGES)

-- the place that was chosen where a root is to go there, or nowhere
abbrev pub place_of_target : Option Target → Placement
place_of_target None = place.Nowhere
place_of_target (Some (Page n)) = place.Page n
place_of_target (Some (New page)) = place.NewPage

-- x made a version of the row as a root on the page of this number
pub record PutsVersion (pages pages' : PagesView) (updated : Bool) (x : ℕ) (row : Row) (n : ℕ) : Type 0 where
  pub put : PutsSlots pages pages' n (with_root (page_in pages.pages n).slots updated x n row) (next_change (page_in pages.pages n).change)
  pub within : free_number (page_in pages.pages n).slots ≤ MOST_SLOTS
