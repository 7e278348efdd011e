use Rattle.prune.specs.Actions.{applied}
use Rattle.prune.proofs.CheckLemmas.{checks-removes}
use Rattle.prune.proofs.Unseen.{removed-keeps_found}
use Rattle.prune.proofs.laws.checked_is_never_seen.Goals as goal

pub returns : goal.returns
returns c = λ w horizon page change actions checks. (
  checks-removes w horizon page change actions checks,
  λ sound. removed-keeps_found w horizon page.slots (applied actions page).slots sound (checks-removes w horizon page change actions checks),
)
