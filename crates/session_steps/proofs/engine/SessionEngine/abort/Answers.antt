use Rattle.std.proofs.Common.{rules}
use Rattle.session_steps.proofs.Outcomes.{handed-on}
use Rattle.session_steps.proofs.Follows.{Follows-abort, Follows-closed_abort}
use Rattle.session_steps.proofs.engine.SessionEngine.abort.Goals as goal

pub returns-in_err-open_session : goal.returns-in_err-open_session
returns-in_err-open_session c = record {
  follows = rw (handed-on c.from_residual.result c.from_residual.ensures.1) (Follows-closed_abort c.args.self.now c.args.s c.in_err-open_session.field-0.0 c.in_err-open_session.ensures);
  exact = search rules;
}

pub returns : goal.returns
returns c = record {
  follows = Follows-abort c.args.self.now _ c.args.s c.in_ok-open_session.field-0.now c.in_ok-open_session.ensures.1 c.close.ensures;
  exact = search rules;
}
