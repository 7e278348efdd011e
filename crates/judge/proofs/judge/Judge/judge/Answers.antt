use Rattle.plain_history.specs.Plain.{world_of}
use Rattle.judge.proofs.Allowing.{reached_after}
use Rattle.judge.proofs.judge.Judge.judge.Goals as goal

pub invariant_of-self : goal.invariant_of-self
invariant_of-self c =
    reached_after c.follow.result (world_of c.self.inside.plain) (world_of c.follow.new.plain) c.args.step.now c.args.reply.now c.self.invariant (c.is_allowed.ensures.0 c.if-is_allowed.true) c.follow.ensures.goes_on c.follow.ensures.stays
