use Rattle.prune.proofs.Thins.{checked-thins}
use Rattle.prune.proofs.laws.checked_thins.Goals as goal

pub returns : goal.returns
returns c = checked-thins
