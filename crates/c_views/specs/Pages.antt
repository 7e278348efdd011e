-- The head of a page, and its slots, as C reads them.
use Rattle.std.specs.Prelude.{ℕ, length, Option, slice_get}
use Rattle.std.specs.Option.{option_and_then, option_map}
use Rattle.page_sheet.specs.Slots.{slot_at}
use Rattle.page_sheet.specs.declared.slot.Slot.{Slot}
use Rattle.page_sheet.specs.declared.slot.Slot.TheVariants.{Unused, Normal, Redirect, Dead}
use Rattle.page_slots.specs.View.{PageView}
use Rattle.space_maps.specs.View.{mark_on}
use Rattle.session_steps.specs.State.{State, bits_of}
use Rattle.c_views.specs.declared.page.SandpiperPage.{SandpiperPage}
use Rattle.c_views.specs.declared.page.SandpiperSlot.{SandpiperSlot}

-- a page with what is noted of it
abbrev pub shown_page : State → ℕ → PageView → SandpiperPage
shown_page st number page = record { change = page.change; bits = bits_of (mark_on st.heap.pages.marks number); slots = length page.slots }

-- the head of the page of this number, counted from 0, if it is in use
abbrev pub head_in : State → ℕ → Option SandpiperPage
head_in st number = option_map (shown_page st number) (slice_get st.heap.pages.pages number)

abbrev pub shown_slot : Slot → SandpiperSlot
shown_slot Unused = record { kind = 0; target = 0; xmin = 0; xmax = 0; key = 0 }
shown_slot (Normal version) = record { kind = 1; target = 0; xmin = version.header.xmin.0; xmax = version.header.xmax.0; key = version.row.key }
shown_slot (Redirect target) = record { kind = 2; target = target; xmin = 0; xmax = 0; key = 0 }
shown_slot Dead = record { kind = 3; target = 0; xmin = 0; xmax = 0; key = 0 }

-- the slot of this number, counted from 1, of the page of this number, counted from 0
abbrev pub page_slot : State → ℕ → ℕ → Option Slot
page_slot st page number = option_and_then (λ p. slot_at p.slots number) (slice_get st.heap.pages.pages page)
