use Rattle.std.proofs.Common.{rules, ap, is_some}
use Rattle.session_steps.proofs.Outcomes.{handed-on}
use Rattle.session_steps.proofs.CursorSteps.{Follows-bare_close, Follows-closed_cursor}
use Rattle.session_steps.proofs.engine.SessionEngine.close_cursor.Goals as goal

pub returns-in_err-with_cursor : goal.returns-in_err-with_cursor
returns-in_err-with_cursor c = record {
  follows = rw (handed-on c.from_residual.result c.from_residual.ensures.1) (Follows-bare_close c.args.self.now c.args.s c.in_err-with_cursor.field-0.0 c.in_err-with_cursor.ensures);
  exact = search rules;
}

pub returns : goal.returns
returns c = record {
  follows = Follows-closed_cursor c.args.self.now _ c.args.s c.in_ok-with_cursor.field-0.0.now c.in_ok-with_cursor.ensures.1 c.in_ok-with_cursor.ensures.2 (ap is_some c.in_ok-with_cursor.ensures.3) c.put_cursor.ensures;
  exact = search rules;
}
