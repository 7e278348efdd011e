use Rattle.prune.proofs.Thins.{pruned-thins}
use Rattle.prune.proofs.laws.pruning_thins.Goals as goal

pub returns : goal.returns
returns c = λ w horizon slots after sound p. pruned-thins w horizon slots after p sound
