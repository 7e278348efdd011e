-- The head of a page, and its slots, in C's places.
use Rattle.std.specs.Prelude.{◌≡◌, ℕ, Option, Some, None}
use Rattle.xid_circle.specs.Numbers.{PageNo, SlotNo}
use Rattle.page_sheet.specs.declared.slot.Slot.{Slot}
use Rattle.c_views.specs.declared.page.SandpiperPage.{SandpiperPage}
use Rattle.c_views.specs.declared.page.SandpiperSlot.{SandpiperSlot}
use Rattle.c_views.specs.Pages.{head_in, shown_slot, page_slot}
use Rattle.c_handles.specs.declared.database.Sandpiper.{Sandpiper}
use Rattle.c_handles.specs.declared.held.Held.{Held}
use Rattle.c_handles.specs.declared.status.CallStatus.TheVariants as status
use Rattle.c_handles.specs.CallStatus.{number_of_status}
use Rattle.sandpiper_c.specs.Calls.{held_by}
use Rattle.sandpiper_c.specs.Looks.{Tells}

abbrev pub head_by : Option Held → ℕ → Option SandpiperPage
head_by None number = None
head_by (Some held) number = head_in held.engine.engine.core number

-- C's place has the head, if there is one, and is else as it was; the status says which
abbrev pub ShowsHeadOf : Sandpiper → ℕ → SandpiperPage → ℕ → SandpiperPage → Type 0
ShowsHeadOf table number old code new = Tells (head_by (held_by table) number) status.NoRow old code new

abbrev pub slot_by : Option Held → ℕ → ℕ → Option Slot
slot_by None page number = None
slot_by (Some held) page number = page_slot held.engine.engine.core page number

-- C's place has the slot, if there is one, and is else as it was; the status says which
abbrev pub ShowsSlot : Option Slot → SandpiperSlot → ℕ → SandpiperSlot → Type 0
ShowsSlot None old code new = (code ≡ number_of_status status.NoRow) × (new ≡ old)
ShowsSlot (Some slot) old code new = (code ≡ number_of_status status.Found) × (new ≡ shown_slot slot)

abbrev pub ShowsSlotOf : Sandpiper → PageNo → SlotNo → SandpiperSlot → (code : ℕ) → SandpiperSlot → Type 0
ShowsSlotOf table page number old code new = ShowsSlot (slot_by (held_by table) page number) old code new
