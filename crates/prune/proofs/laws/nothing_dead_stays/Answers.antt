use Rattle.prune.proofs.Spared.{pruned-none_dead}
use Rattle.prune.proofs.laws.nothing_dead_stays.Goals as goal

pub returns : goal.returns
returns c = pruned-none_dead
