-- The page that bytes say.
use Rattle.std.specs.Prelude.{ℕ, List}
use Rattle.page_sheet.specs.Layout.{slots_in}
use Rattle.page_sheet.specs.Placing.{places_in}
use Rattle.page_layout.specs.Layout.{slot_count_in, change_in, is_all_visible_in}
use Rattle.page_slots.specs.View.{PageView}

-- so many slots as the place says where the pointers end
abbrev pub page_of : List ℕ → PageView
page_of bytes = record {
  slots = slots_in (slot_count_in bytes) bytes;
  change = change_in bytes;
  flag = is_all_visible_in bytes;
  places = places_in (slot_count_in bytes) bytes;
}
