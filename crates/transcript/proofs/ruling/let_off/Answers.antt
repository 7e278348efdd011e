use Rattle.plain_history.specs.Plain.{world_of}
use Rattle.transcript.proofs.RulingLemmas.{not_let_off}
use Rattle.transcript.proofs.ruling.let_off.Goals as goal

pub returns-else-leaves_open : goal.returns-else-leaves_open
returns-else-leaves_open c = not_let_off (world_of c.args.judge.now) c.args.step.now c.args.reply.now c.in-Refused.refusal c.leaves_open.result c.in-Refused.is c.if-leaves_open.false c.leaves_open.ensures
