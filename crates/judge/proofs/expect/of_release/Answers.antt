use Rattle.plain_history.specs.Plain.{world_of}
use Rattle.judge.proofs.DueLemmas.{release_refused, release_taken}
use Rattle.judge.proofs.expect.of_release.Goals as goal

pub returns-in-Ok : goal.returns-in-Ok
returns-in-Ok c = release_taken (world_of c.args.plain.now) c.args.s c.in-Ok.ensures.ok

pub returns-in-Err : goal.returns-in-Err
returns-in-Err c = release_refused (world_of c.args.plain.now) c.args.s c.in-Err.why c.in-Err.ensures.err
