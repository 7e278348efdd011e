use Rattle.prune.proofs.PlanChecks.{empty-checks, own-target}
use Rattle.prune.proofs.laws.checks_at_either_end.Goals as goal

pub returns : goal.returns
returns c = λ w horizon page. (
  empty-checks w horizon page,
  λ change actions n k checks at. own-target w horizon page change actions n k checks at,
)
