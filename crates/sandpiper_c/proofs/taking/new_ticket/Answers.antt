use Rattle.std.proofs.Common.{sym, subst}
use Rattle.table_scans.specs.Tickets.{TicketView, ticket_rows}
use Rattle.session_steps.specs.Tickets.{AreViewed}
use Rattle.sandpiper_c.specs.Tickets.{core_of}
use Rattle.sandpiper_c.proofs.taking.new_ticket.Goals as goal

pub returns-in-Ok-new-clause-view : goal.returns-in-Ok-new-clause-view
returns-in-Ok-new-clause-view c =
    subst (λ (ticket : TicketView). AreViewed (core_of c.args.held.now) c.args.session (ticket_rows ticket)) (sym c.in-Ok-new.ensures.ok) c.in-Ok.ensures.view
