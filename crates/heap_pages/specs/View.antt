-- The pages of a table as their callers see them.
use Rattle.std.specs.Prelude.{◌≡◌, ℕ, ◌≤◌, false, List, Option, length, map, Some, None, slice_get, slice_set}
use Rattle.std.specs.Borrow.{MutBor}
use Rattle.std.specs.Fn.{Once, FnOnceReturnsAtMut}
use Rattle.std.specs.declared.sync.Arc.{Arc}
use Rattle.std.specs.declared.boxed.Box.{Box}
use Rattle.std.specs.declared.alloc.Global.{Global}
use Rattle.page_slots.specs.View.{PageView}
use Rattle.page_sheet.specs.Slots.{room_of}
use Rattle.space_maps.specs.View.{MarksView, says_visible}
use Rattle.space_maps.specs.FreeSpace.{FreeView}
use Rattle.space_maps.specs.declared.mark.Mark.{Mark}
use Rattle.space_maps.specs.declared.mark.Mark.TheVariants.{Nothing}
use Rattle.heap_pages.specs.Choice.{free_byte_of}
use Rattle.heap_pages.specs.declared.pages.TheConstants.{MOST_PAGES}

-- what readers were last given, if anything, is the page
abbrev pub IsCopy : PageView → Option (Arc (Box PageView Global) Global) → Type 0
IsCopy own (Some shared) = shared.value.value ≡ own
IsCopy own None = Unit {0}

pub record PagesView : Type 0 where
  pub pages : List PageView
  -- what was last noted of each, in the visibility map
  pub marks : List Mark
  -- how many pages can be added without memory
  pub spare : ℕ

-- the byte of each page, as the free space map has it
abbrev pub free_space_bytes : List PageView → List ℕ
free_space_bytes pages = map (λ (page : PageView). free_byte_of (room_of page.slots)) pages

-- with this page in the place of its number
abbrev pub with_page : PagesView → ℕ → PageView → PagesView
with_page p n page = record p { pages = slice_set p.pages n page }

-- the page of this number was changed as the function does, and nothing else
abbrev pub Edits : {F R : Type 0} → Once F (MutBor PageView × Unit {0}) (R × (MutBor PageView × Unit {0})) → F → PagesView → PagesView → ℕ → R → Type 0
Edits g change old new number result =
    (was : PageView) × (is : PageView) × (slice_get old.pages number ≡ Some was) × FnOnceReturnsAtMut g change was result is × (new ≡ with_page old number is)

-- this was noted of the page of this number, in the map and in the page's flag, and nothing else changed
abbrev pub NotesMark : PagesView → PagesView → ℕ → Mark → Type 0
NotesMark old new n mark = (was : PageView) × (slice_get old.pages n ≡ Some was)
    × (new ≡ record old { pages = slice_set old.pages n (record was { flag = says_visible mark }); marks = slice_set old.marks n mark })

-- the page of this number was changed as the function does, once nothing was noted of it any more, and nothing else
abbrev pub WritesOn : {F R : Type 0} → Once F (MutBor PageView × Unit {0}) (R × (MutBor PageView × Unit {0})) → F → PagesView → PagesView → ℕ → R → Type 0
WritesOn g change old new number result =
    (was : PageView) × (is : PageView) × (slice_get old.pages number ≡ Some was) × FnOnceReturnsAtMut g change (record was { flag = false }) result is
    × (new ≡ record old { pages = slice_set old.pages number is; marks = slice_set old.marks number Nothing })

-- what is true of the pages of a table, their maps, and how many more each has memory for
pub record IsPageTable (pages : List PageView) (free : FreeView) (marks : MarksView) (spare room : ℕ) : Type 0 where
  pub few : length pages ≤ MOST_PAGES
  pub bytes : free.bytes ≡ free_space_bytes pages
  pub pages_spare : spare ≤ room
  pub free_spare : spare ≤ free.spare
  pub marked : length marks.marks ≡ length pages
  pub marks_spare : spare ≤ marks.spare
