-- Tickets, as C takes, reads and ends them.
use Rattle.std.specs.Prelude.{◌≡◌, ◌≢◌, ◌⊎◌, ℕ, ◌<◌, ◌≤◌, List, [], length, Option, Some, None}
use Rattle.xid_circle.specs.Numbers.{SessionNo, PageNo, Count}
use Rattle.tuple_header.specs.declared.row_place.RowPlace.{RowPlace}
use Rattle.tuple_header.specs.declared.version.Row.{Row}
use Rattle.tuple_header.specs.Places.{places_with}
use Rattle.table_scans.specs.Tickets.{TicketView, ticket_rows}
use Rattle.calls.specs.declared.reply.Refusal.{Refusal}
use Rattle.calls.specs.declared.reply.Refusal.TheVariants as refusal
use Rattle.session_steps.specs.State.{State}
use Rattle.session_steps.specs.Tickets.{TakesTicket, RefusesTicket, AreViewed}
use Rattle.c_handles.specs.declared.database.Sandpiper.{Sandpiper}
use Rattle.c_handles.specs.declared.held.Held.{Held}
use Rattle.c_handles.specs.declared.ticket.SandpiperTicket.{SandpiperTicket}
use Rattle.c_handles.specs.declared.status.CallStatus.TheVariants as status
use Rattle.c_handles.specs.CallStatus.{number_of_status}
use Rattle.sandpiper_c.specs.Calls.{held_by}

abbrev pub core_of : Held → State
core_of held = held.engine.engine.core

-- the ticket that C's handle has, if it has one
abbrev pub ticket_by : SandpiperTicket → Option TicketView
ticket_by ticket = ticket.handle.held

-- why a page is not taken: as the engine says; or it could be, and memory was refused for the ticket itself
abbrev pub RefusesPage : State → SessionNo → PageNo → Refusal → Type 0
RefusesPage st s number reason = RefusesTicket st s number reason ⊎ ((reason ≡ refusal.NoMemory) × ((ticket : TicketView) × TakesTicket st s number ticket))

-- the ticket has what a statement of the session sees on the page, which is of its view; or there is none, and the status says why
abbrev pub GivesTicket : Held → SessionNo → PageNo → (code : ℕ) → Option TicketView → Type 0
GivesTicket held s number code (Some ticket) = (code ≡ number_of_status status.Done) × TakesTicket (core_of held) s number ticket × AreViewed (core_of held) s (ticket_rows ticket)
GivesTicket held s number code None = (reason : Refusal) × RefusesPage (core_of held) s number reason × (code ≡ number_of_status (status.Refused reason))

-- a ticket that is there stays
abbrev pub GivesTicketBy : Option Held → SessionNo → PageNo → Option TicketView → (code : ℕ) → Option TicketView → Type 0
GivesTicketBy table s number (Some old) code new = (code ≡ number_of_status status.HasTicket) × (new ≡ Some old)
GivesTicketBy None s number None code new = (code ≡ number_of_status status.NoEngine) × (new ≡ None)
GivesTicketBy (Some held) s number None code new = GivesTicket held s number code new

abbrev pub GivesTicketOf : Sandpiper → SessionNo → PageNo → SandpiperTicket → (code : ℕ) → SandpiperTicket → Type 0
GivesTicketOf table s number old code new = GivesTicketBy (held_by table) s number (ticket_by old) code (ticket_by new)

-- C's places have the rows, where there are any and the places are enough, and are else as they were; the status says which
abbrev pub ShowsRows : List Row → List RowPlace → (code : ℕ) → List RowPlace → (count : Count) → Type 0
ShowsRows rows places code after count = (count ≡ length rows) × (
    ((length rows ≡ 0) × (code ≡ number_of_status status.NoRow) × (after ≡ places))
    ⊎ ((length places < length rows) × (code ≡ number_of_status status.NoPlace) × (after ≡ places))
    ⊎ ((0 < length rows) × (length rows ≤ length places) × (code ≡ number_of_status status.Rows) × (after ≡ places_with rows places)))

-- or memory was refused, and none is shown
abbrev pub ReadsRows : List Row → List RowPlace → (code : ℕ) → List RowPlace → (count : Count) → Type 0
ReadsRows rows places code after count = ShowsRows rows places code after count
    ⊎ ((rows ≢ []) × (code ≡ number_of_status (status.Refused refusal.NoMemory)) × (after ≡ places) × (count ≡ 0))

-- the rows of the ticket, if there is one
abbrev pub ReadsTicket : Option TicketView → List RowPlace → (code : ℕ) → List RowPlace → (count : Count) → Type 0
ReadsTicket None places code after count = (code ≡ number_of_status status.NoTicket) × (after ≡ places) × (count ≡ 0)
ReadsTicket (Some ticket) places code after count = ReadsRows (ticket_rows ticket) places code after count

-- the ticket is gone
abbrev pub ClosesTicket : Option TicketView → (code : ℕ) → Option TicketView → Type 0
ClosesTicket None code new = (code ≡ number_of_status status.NoTicket) × (new ≡ None)
ClosesTicket (Some old) code new = (code ≡ number_of_status status.Done) × (new ≡ None)
