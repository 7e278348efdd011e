use Rattle.plain_history.specs.Plain.{world_of}
use Rattle.judge.proofs.DueLemmas.{abort_refused, aborts}
use Rattle.judge.proofs.expect.of_abort.Goals as goal

pub returns-in-Ok : goal.returns-in-Ok
returns-in-Ok c = (aborts (world_of c.args.plain.now) c.args.s c.in-Ok.ensures.ok, tt)

pub returns-in-Err : goal.returns-in-Err
returns-in-Err c = abort_refused (world_of c.args.plain.now) c.args.s c.in-Err.why c.in-Err.ensures.err
