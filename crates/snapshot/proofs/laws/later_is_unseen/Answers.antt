use Rattle.snapshot.proofs.Sights.{later-unseen}
use Rattle.snapshot.proofs.laws.later_is_unseen.Goals as goal

pub returns : goal.returns
returns c = later-unseen
