use Rattle.plain_history.specs.Plain.{world_of}
use Rattle.judge.proofs.DueLemmas.{open_heap_refused}
use Rattle.judge.proofs.expect.of_open_heap.Goals as goal

pub returns-in-Err : goal.returns-in-Err
returns-in-Err c = open_heap_refused (world_of c.args.plain.now) c.args.s c.in-Err.why c.in-Err.ensures.err
