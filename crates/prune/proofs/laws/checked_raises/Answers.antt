use Rattle.prune.proofs.Raising.{checked-raises}
use Rattle.prune.proofs.laws.checked_raises.Goals as goal

pub returns : goal.returns
returns c = checked-raises
