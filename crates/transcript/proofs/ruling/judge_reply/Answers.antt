use Rattle.plain_history.specs.Plain.{world_of}
use Rattle.transcript.proofs.RulingLemmas.{says_why}
use Rattle.transcript.proofs.ruling.judge_reply.Goals as goal

pub returns-in-Ok : goal.returns-in-Ok
returns-in-Ok c =
    let told = rw c.in-Ok-Broken.field-0-is at c.in-Ok-Broken.ensures.told in
    says_why (world_of c.args.judge.now) (world_of c.judge.new.self) c.args.step.now c.args.reply.now c.in-Ok.why told.1 told.0 c.in-Ok.ensures.rule c.in-Ok.ensures.due
