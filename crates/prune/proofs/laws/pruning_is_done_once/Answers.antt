use Rattle.prune.proofs.SoundAfter.{pruned-again}
use Rattle.prune.proofs.laws.pruning_is_done_once.Goals as goal

pub returns : goal.returns
returns c = pruned-again
