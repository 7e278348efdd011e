use Rattle.snapshot.proofs.Sights.{open-unseen}
use Rattle.snapshot.proofs.laws.open_is_unseen.Goals as goal

pub returns : goal.returns
returns c = open-unseen
