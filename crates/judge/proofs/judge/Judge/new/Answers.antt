use Rattle.std.proofs.Common.{sym, subst}
use Rattle.history.specs.Events.{stays}
use Rattle.judge.specs.Rulings.{IsReached}
use Rattle.judge.proofs.judge.Judge.new.Goals as goal

pub invariant_of-result : goal.invariant_of-result
invariant_of-result c = subst IsReached (sym c.in-Ok.ensures) (c.args.indexed, stays)
