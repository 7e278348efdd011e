-- Which page takes a new version. A byte for each page says roughly how much room there is, as in PostgreSQL's free space
-- map. (src/backend/storage/freespace/README: one byte, in units of a 256th of a page.) The order of choice is this
-- project's.
use Rattle.std.specs.Prelude.{◌≡◌, ℕ, ◌*◌, ◌/◌, ◌<◌, ◌≤◌, min, List, length, Option, Some, None, slice_get}
use Rattle.page_slots.specs.View.{PageView}
use Rattle.page_sheet.specs.Slots.{room_of}
use Rattle.heap_pages.specs.declared.pages.Placement.{Placement}
use Rattle.heap_pages.specs.declared.pages.Placement.TheVariants.{Page, NewPage, Nowhere}

-- the free-space byte: how many times the room holds 32 bytes, at most 255
abbrev pub free_byte_of : ℕ → ℕ
free_byte_of room = min (room / 32) 255

-- the byte promises room for a version of this size
abbrev pub Promises : ℕ → PageView → Type 0
Promises size page = size ≤ 32 * free_byte_of (room_of page.slots)

-- the exact room is enough for it
abbrev pub HasRoom : ℕ → PageView → Type 0
HasRoom size page = size ≤ room_of page.slots

-- no page has P, or this one is the first that has it
abbrev pub NoPage : List PageView → (PageView → Type 0) → Type 0
NoPage pages P = (n : ℕ) (page : PageView) → slice_get pages n ≡ Some page → ¬ P page

pub record IsFirstPage (pages : List PageView) (P : PageView → Type 0) (n : ℕ) : Type 0 where
  pub page : PageView
  pub there : slice_get pages n ≡ Some page
  pub has : P page
  pub before : (k : ℕ) (earlier : PageView) → k < n → slice_get pages k ≡ Some earlier → ¬ P earlier

abbrev pub FindsFirstPage : List PageView → (PageView → Type 0) → Option ℕ → Type 0
FindsFirstPage pages P None = NoPage pages P
FindsFirstPage pages P (Some n) = IsFirstPage pages P n

-- A version of this size goes to the first page whose byte promises the room. Else it goes to a new page, while fewer than
-- limit are in use. Else it goes to the first page whose exact room is enough, else nowhere.
pub data IsPlaceFor (pages : List PageView) (limit size : ℕ) (place : Placement) : Type 0 where
  by_byte : (n : ℕ) → IsFirstPage pages (Promises size) n → place ≡ Page n → IsPlaceFor pages limit size place
  on_new_page : NoPage pages (Promises size) → length pages < limit → place ≡ NewPage → IsPlaceFor pages limit size place
  by_room : (n : ℕ) → NoPage pages (Promises size) → limit ≤ length pages → IsFirstPage pages (HasRoom size) n → place ≡ Page n → IsPlaceFor pages limit size place
  nowhere : NoPage pages (Promises size) → limit ≤ length pages → NoPage pages (HasRoom size) → place ≡ Nowhere → IsPlaceFor pages limit size place
