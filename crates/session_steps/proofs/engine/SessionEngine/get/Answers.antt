use Rattle.std.proofs.Common.{sym, subst}
use Rattle.calls.specs.declared.step.Step.TheVariants as step
use Rattle.session_steps.specs.Exact.{AnswersStep}
use Rattle.session_steps.proofs.engine.SessionEngine.get.Goals as goal

pub returns-in-Ok : goal.returns-in-Ok
returns-in-Ok c = subst (λ reply. AnswersStep c.args.self.now (step.Get c.args.s c.args.key) reply c.args.self.now) (sym c.put_found.ensures) c.in-Ok.ensures.answers

pub returns-in-Err : goal.returns-in-Err
returns-in-Err c = c.in-Err.ensures.answers
