use Rattle.plain_history.specs.Plain.{world_of}
use Rattle.judge.proofs.Allowing.{by_due, by_free}
use Rattle.judge.proofs.judge.is_plainly_allowed.Goals as goal

pub returns-in-Due : goal.returns-in-Due
returns-in-Due c = by_due (world_of c.args.plain.now) c.args.step.now c.in-Due.due c.args.reply.now c.same_reply.result c.requires.reached c.in-Due.ensures c.same_reply.ensures

pub returns-in-Free : goal.returns-in-Free
returns-in-Free c =
    let w = world_of c.args.plain.now in
    by_free w c.args.step.now c.args.reply.now c.is_free.result c.requires.reached c.requires.judged c.in-Free.ensures c.is_free.ensures
