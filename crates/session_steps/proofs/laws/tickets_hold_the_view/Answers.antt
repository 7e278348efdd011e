use Rattle.session_steps.proofs.TicketLemmas.{tickets-hold-the-view}
use Rattle.session_steps.proofs.laws.tickets_hold_the_view.Goals as goal

pub returns : goal.returns
returns c = tickets-hold-the-view
