use Rattle.std.specs.Arc.{arc_value}
use Rattle.table_scans.specs.Tickets.{ticket_rows}
use Rattle.session_steps.proofs.TicketLemmas.{took, rows-viewed}
use Rattle.session_steps.proofs.engine.SessionEngine.take_page.Goals as goal

pub returns-clause-taken : goal.returns-clause-taken
returns-clause-taken c =
    took c.args.self.now c.args.s c.args.number c.in_ok-session.session.now c.reader-reader.result (arc_value c.in-Ok.page).value c.of.result c.share.new.self
    c.share.ensures.same c.in_ok-session.ensures.1 c.in_ok-session.ensures.2 c.reader-reader.ensures c.in-Ok.ensures.shared c.of.ensures.page c.of.ensures.rows

pub returns-clause-view : goal.returns-clause-view
returns-clause-view c = rows-viewed c.args.self.now c.args.s c.args.number (ticket_rows c.of.result) (returns-clause-taken c).sees
