use Rattle.snapshot.proofs.Sights.{sees-top}
use Rattle.snapshot.proofs.laws.sees_by_top.Goals as goal

pub returns : goal.returns
returns c = sees-top
