use Rattle.std.specs.Int.{w128}
use Rattle.std.proofs.lemmas.Int.{to_z-of_z}
use Rattle.plain_history.specs.Plain.{world_of}
use Rattle.following.proofs.AfterLemmas.{open_keys_after}
use Rattle.following.proofs.steps.on_open_keys.Goals as goal

pub returns-in-Done-clause-goes_on : goal.returns-in-Done-clause-goes_on
returns-in-Done-clause-goes_on c =
    open_keys_after c.open.result (world_of c.args.plain.now) (world_of c.open.new.plain) c.args.s c.args.low c.args.high _ _ c.args.reply.now c.in-Done.is
    (to_z-of_z w128 c.args.low c.ranges.low) (to_z-of_z w128 c.args.high c.ranges.high) c.open.ensures.ok
