use Rattle.plain_history.specs.Plain.{world_of}
use Rattle.judge.proofs.DueLemmas.{savepoint_refused, savepoint_taken}
use Rattle.judge.proofs.expect.of_savepoint.Goals as goal

pub returns-in-Ok : goal.returns-in-Ok
returns-in-Ok c = savepoint_taken (world_of c.args.plain.now) c.args.s c.in-Ok.ensures.ok

pub returns-in-Err : goal.returns-in-Err
returns-in-Err c = savepoint_refused (world_of c.args.plain.now) c.args.s c.in-Err.why c.in-Err.ensures.err
