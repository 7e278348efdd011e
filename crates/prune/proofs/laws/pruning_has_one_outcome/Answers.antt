use Rattle.prune.proofs.Unshared.{does-one, pruned-one}
use Rattle.prune.proofs.laws.pruning_has_one_outcome.Goals as goal

pub returns : goal.returns
returns c = λ w horizon slots apart. (
  λ n a b x y. does-one w horizon slots n a b apart x y,
  λ a b p q. pruned-one w horizon slots a b apart p q,
)
