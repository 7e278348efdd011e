-- What is noted of a page, in the visibility map and on the page.
use Rattle.std.specs.Prelude.{◌≡◌, ◌≢◌, ◌↔◌, ◌<◌, ◌==◌, ℕ, Bool, true, Option, Some}
use Rattle.std.specs.Option.{option_and_then}
use Rattle.tuple_header.specs.Version.{Version}
use Rattle.tuple_header.specs.Marks.{is_frozen}
use Rattle.page_sheet.specs.declared.slot.Slot.{Slot}
use Rattle.page_sheet.specs.declared.slot.Slot.TheVariants.{Dead}
use Rattle.page_sheet.specs.Slots.{slot_at, version_of}
use Rattle.page_slots.specs.View.{PageView}

-- a slot as it has to be on a page that is all-visible, or all-frozen: it is not dead, nobody has deleted its version, which is frozen
pub record KeepsNote (frozen : Bool) (slot : Option Slot) : Type 0 where
  pub alive : slot ≢ Some Dead
  pub kept : (t : Version) → option_and_then version_of slot ≡ Some t → t.header.xmax.0 ≡ 0
  pub made : frozen ≡ true → (t : Version) → option_and_then version_of slot ≡ Some t → is_frozen t.header ≡ true

-- the page is as these bits of the visibility map say, and so does its flag
pub record IsAsNoted (page : PageView) (bits : ℕ) : Type 0 where
  pub flag : (page.flag ≡ true) ↔ (0 < bits)
  pub slots : 0 < bits → (n : ℕ) → KeepsNote (bits == 2) (slot_at page.slots n)
