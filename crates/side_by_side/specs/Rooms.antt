-- Pages without room.
use Rattle.std.specs.Prelude.{ℕ, ◌<◌, List, Option, Some, None, slice_get}
use Rattle.page_slots.specs.View.{PageView}
use Rattle.page_sheet.specs.Slots.{room_of}

-- the page is in use, and a version of this size does not fit
abbrev pub PageIsFull : Option PageView → ℕ → Type 0
PageIsFull None size = ⊥
PageIsFull (Some page) size = room_of page.slots < size

-- so of each of the first pages, as many as there may be
abbrev pub AreFull : List PageView → ℕ → ℕ → Type 0
AreFull pages count size = (n : ℕ) → n < count → PageIsFull (slice_get pages n) size
