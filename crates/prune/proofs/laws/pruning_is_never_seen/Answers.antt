use Rattle.prune.proofs.Removing.{pruned-removes}
use Rattle.prune.proofs.Unseen.{removed-keeps_found}
use Rattle.prune.proofs.laws.pruning_is_never_seen.Goals as goal

pub returns : goal.returns
returns c = λ w horizon slots after sound p. removed-keeps_found w horizon slots after sound (pruned-removes w horizon slots after p)
