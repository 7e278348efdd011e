-- Slots that hold a dead version.
use Rattle.std.specs.Prelude.{◌≡◌, ℕ, List, Some}
use Rattle.page_sheet.specs.declared.slot.Slot.{Slot}
use Rattle.page_sheet.specs.Slots.{version_at}
use Rattle.tuple_header.specs.Version.{Version}
use Rattle.commit_status.specs.Window.{Window}
use Rattle.visibility.specs.Visible.{IsDead}

-- the slot holds a dead version
pub record IsDeadAt (w : Window) (horizon : ℕ) (slots : List Slot) (n : ℕ) : Type 0 where
  pub version : Version
  pub there : version_at slots n ≡ Some version
  pub dead : IsDead w horizon version.header

-- some slot of the page does
pub record HasDead (w : Window) (horizon : ℕ) (slots : List Slot) : Type 0 where
  pub number : ℕ
  pub dead : IsDeadAt w horizon slots number
