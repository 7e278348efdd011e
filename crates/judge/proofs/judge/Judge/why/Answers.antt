use Rattle.std.proofs.Common.{subst}
use Rattle.std.specs.Prelude.{IfOk}
use Rattle.plain_history.specs.Plain.{Plain, world_of}
use Rattle.judge.specs.declared.why.Why.{Why}
use Rattle.judge.specs.Reasons.{TellsDue}
use Rattle.judge.proofs.judge.Judge.why.Goals as goal

pub returns-clause-due : goal.returns-clause-due
returns-clause-due c = subst (λ (p : Plain). IfOk c.why_not.result (λ (why : Why). TellsDue (world_of p) c.args.step.now why.due)) c.self.view_is c.why_not.ensures.due
