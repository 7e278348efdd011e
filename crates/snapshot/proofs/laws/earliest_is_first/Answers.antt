use Rattle.snapshot.proofs.Earliest.{earliest-is}
use Rattle.snapshot.proofs.laws.earliest_is_first.Goals as goal

pub returns : goal.returns
returns c = earliest-is
