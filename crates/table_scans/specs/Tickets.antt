-- A page as it was at one moment, and what one reader saw of it then.
use Rattle.std.specs.Prelude.{◌≡◌, List, [], ◌∷◌, Option, Some, None, length, option_to_list}
use Rattle.std.specs.List.{flat_map}
use Rattle.xid_circle.specs.Numbers.{SlotNo}
use Rattle.tuple_header.specs.declared.version.Row.{Row}
use Rattle.page_sheet.specs.declared.slot.Slot.{Slot}
use Rattle.page_sheet.specs.Slots.{row_at}
use Rattle.page_slots.specs.View.{PageView}

pub record TicketView : Type 0 where
  pub page : PageView
  -- the slots whose versions were seen
  pub seen : List SlotNo

-- the rows of the versions in these slots
abbrev pub rows_at : List Slot → List SlotNo → List Row
rows_at slots numbers = flat_map (λ n. option_to_list (row_at slots n)) numbers

-- the rows that were seen
abbrev pub ticket_rows : TicketView → List Row
ticket_rows ticket = rows_at ticket.page.slots ticket.seen

-- there is a version in each of these slots
abbrev pub HasRows : List Slot → List SlotNo → Type 0
HasRows slots numbers = length (rows_at slots numbers) ≡ length numbers
