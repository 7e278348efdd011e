use Rattle.plain_history.specs.Plain.{world_of}
use Rattle.judge.proofs.DueLemmas.{get_refused}
use Rattle.judge.proofs.expect.of_get.Goals as goal

pub returns-in-Err : goal.returns-in-Err
returns-in-Err c = get_refused (world_of c.args.plain.now) c.args.s c.args.key c.in-Err.why c.in-Err.ensures.err
