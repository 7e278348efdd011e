use Rattle.plain_history.specs.Plain.{world_of}
use Rattle.judge.proofs.DueLemmas.{begin_refused, begin_read_committed_refused}
use Rattle.judge.proofs.expect.of_begin.Goals as goal

pub returns-in-Err-clause-by_snapshot : goal.returns-in-Err-clause-by_snapshot
returns-in-Err-clause-by_snapshot c = begin_refused (world_of c.args.plain.now) c.args.s c.in-Err.why c.in-Err.ensures.err

pub returns-in-Err-clause-by_statement : goal.returns-in-Err-clause-by_statement
returns-in-Err-clause-by_statement c = begin_read_committed_refused (world_of c.args.plain.now) c.args.s c.in-Err.why c.in-Err.ensures.err
