use Rattle.std.specs.Int.{w128}
use Rattle.std.proofs.lemmas.Int.{to_z-of_z}
use Rattle.plain_history.specs.Plain.{world_of}
use Rattle.judge.proofs.DueLemmas.{open_keys_refused_by}
use Rattle.judge.proofs.expect.of_open_keys.Goals as goal

pub returns-in-Err : goal.returns-in-Err
returns-in-Err c = open_keys_refused_by (world_of c.args.plain.now) c.args.s c.args.low c.args.high _ _ c.in-Err.why (to_z-of_z w128 c.args.low c.ranges.low) (to_z-of_z w128 c.args.high c.ranges.high) c.in-Err.ensures.err
