-- What a handle owns.
use Rattle.std.specs.Prelude.{Option, Some, None}
use base.Fml.{Fml, ftrue}
use denote.RawPtr.{Ptr}
use Rattle.std.specs.contracts.impls.GlobalAllocator.TheImpl.{ghosts}
use Rattle.std_alloc.specs.Box.Ownership.{box_owns}
use Rattle.c_handles.specs.Heap.{the_heap}
use Rattle.table_scans.specs.Tickets.{TicketView}
use Rattle.table_scans.specs.contracts.ticket.Ticket as ticket
use Rattle.c_handles.specs.contracts.held.Held as held
use Rattle.c_handles.specs.declared.held.Held.{Held}

-- nothing, or what is held at p, and the right to free its block
abbrev pub owned : Ptr → Option Held → Fml
owned p None = ftrue
owned p (Some x) = box_owns (ghosts.dealloc_token the_heap) held.the_row p x

-- the same of a ticket
abbrev pub owned_ticket : Ptr → Option TicketView → Fml
owned_ticket p None = ftrue
owned_ticket p (Some x) = box_owns (ghosts.dealloc_token the_heap) ticket.the_row p x
