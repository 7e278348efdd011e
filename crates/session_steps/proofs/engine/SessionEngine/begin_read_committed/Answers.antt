use Rattle.session_steps.proofs.Outcomes.{handed-on}
use Rattle.session_steps.proofs.Hindering.{exact-barred_begin_by_statement}
use Rattle.session_steps.proofs.Follows.{Follows-begin_by_statement, Follows-barred_begin_by_statement}
use Rattle.session_steps.proofs.engine.SessionEngine.begin_read_committed.Goals as goal

pub returns-in_err-may_begin : goal.returns-in_err-may_begin
returns-in_err-may_begin c = record {
  follows = rw (handed-on c.from_residual.result c.from_residual.ensures.1) (Follows-barred_begin_by_statement c.args.self.now c.args.s c.in_err-may_begin.field-0.0 c.in_err-may_begin.ensures);
  exact = rw (handed-on c.from_residual.result c.from_residual.ensures.1) (exact-barred_begin_by_statement c.args.self.now c.args.s c.in_err-may_begin.field-0.0 c.in_err-may_begin.ensures);
}

pub returns : goal.returns
returns c = record {
  follows = Follows-begin_by_statement c.args.self.now _ c.args.s c.in_ok-may_begin.ensures.0 c.in_ok-may_begin.ensures.1 c.open.ensures;
  exact = c.open.ensures;
}
