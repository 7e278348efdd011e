use Rattle.std.proofs.Common.{subst}
use Rattle.plain_history.specs.Plain.{world_of}
use Rattle.judge.specs.declared.due.Due.{Due}
use Rattle.judge.specs.Reasons.{TellsDue}
use Rattle.judge.proofs.Reasoning.{misses_due}
use Rattle.judge.proofs.why.why_beside.Goals as goal

pub returns-in-Alone-clause-rule : goal.returns-in-Alone-clause-rule
returns-in-Alone-clause-rule c =
    let w = world_of c.args.plain.now in
    misses_due c.rule_of.result w c.args.step.now c.in-Alone.answer c.args.reply.now (subst (λ (due : Due). TellsDue w c.args.step.now due) c.in-Alone.is c.requires.told) c.rule_of.ensures c.requires.broken
