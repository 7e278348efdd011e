use Rattle.prune.proofs.Unseen.{removed-keeps_found}
use Rattle.prune.proofs.laws.removing_is_never_seen.Goals as goal

pub returns : goal.returns
returns c = removed-keeps_found
