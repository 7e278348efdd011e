use Rattle.visibility.proofs.Dead.{dead-unseen}
use Rattle.visibility.proofs.laws.dead_is_unseen.Goals as goal

pub returns : goal.returns
returns c = dead-unseen
