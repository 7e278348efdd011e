use Rattle.plain_history.specs.Plain.{world_of}
use Rattle.judge.proofs.Reasoning.{misses_due, unfounded_free, done_due}
use Rattle.judge.proofs.why.why_plainly.Goals as goal

pub returns-in-Due-clause-rule : goal.returns-in-Due-clause-rule
returns-in-Due-clause-rule c =
    misses_due c.rule_of.result (world_of c.args.plain.now) c.args.step.now c.in-Due.due c.args.reply.now c.in-Due.ensures c.rule_of.ensures c.requires.broken

pub returns-in-Free-clause-rule : goal.returns-in-Free-clause-rule
returns-in-Free-clause-rule c =
    unfounded_free c.rule_of-in-Free.result (world_of c.args.plain.now) c.args.step.now c.args.reply.now c.requires.judged c.in-Free.ensures c.rule_of-in-Free.ensures c.requires.broken

pub returns-in-Free-clause-due : goal.returns-in-Free-clause-due
returns-in-Free-clause-due c = done_due (world_of c.args.plain.now) c.args.step.now c.in-Free.ensures
