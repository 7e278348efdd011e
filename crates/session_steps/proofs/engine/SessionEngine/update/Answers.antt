use Rattle.std.proofs.Common.{rules, subst}
use Rattle.tuple_header.specs.declared.version.Row.{Row}
use Rattle.calls.specs.Writes.{updates}
use Rattle.calls.specs.declared.step.Step.TheVariants as step
use Rattle.session_steps.specs.Replies.{reply_to}
use Rattle.session_steps.specs.Exact.{AnswersStep}
use Rattle.session_steps.specs.Writes.{worded}
use Rattle.session_steps.proofs.Hindering.{answers-unready}
use Rattle.session_steps.proofs.Follows.{Follows-too_large}
use Rattle.session_steps.proofs.Outcomes.{handed-on}
use Rattle.session_steps.proofs.engine.SessionEngine.update.Goals as goal

pub returns-in_err-free : goal.returns-in_err-free
returns-in_err-free c = rw (handed-on c.from_residual.result c.from_residual.ensures.1) (answers-unready c.args.self.now c.args.s (updates c.args.row) c.in_err-free.field-0.0 c.in_err-free.ensures)

pub returns-in_err-fill_row : goal.returns-in_err-fill_row
returns-in_err-fill_row c = rw (handed-on c.from_residual-in_err-fill_row.result c.from_residual-in_err-fill_row.ensures.1, c.in_err-fill_row.ensures.fault.0) (record {
  follows = Follows-too_large c.args.self.now c.args.s c.in_ok-free.field-0.now (updates c.args.row) c.in_ok-free.ensures.1 c.in_ok-free.ensures.2 c.in_ok-free.ensures.3 c.in_err-fill_row.ensures.fault.1;
  exact = search rules;
})

pub returns : goal.returns
returns c = subst (λ (row : Row). AnswersStep c.args.self.now (step.Update c.args.s (worded row)) (reply_to c.update_row.result) c.update_row.new.self) c.in_ok-fill_row.ensures.filled.1 c.update_row.ensures
