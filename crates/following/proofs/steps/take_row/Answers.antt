use Rattle.plain_history.specs.Plain.{world_of}
use Rattle.following.proofs.AfterLemmas.{restored}
use Rattle.following.proofs.steps.take_row.Goals as goal

pub returns-in-Err-clause-err : goal.returns-in-Err-clause-err
returns-in-Err-clause-err c =
    restored (world_of c.args.plain.now) (world_of c.take_row.new.self) (world_of c.restore.new.plain) c.args.s c.wait_of-wait.result c.wait_of-wait.ensures c.in-Err.ensures.err c.restore.ensures
