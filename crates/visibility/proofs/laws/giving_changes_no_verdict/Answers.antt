use Rattle.visibility.proofs.Verdicts.{giving-unseen}
use Rattle.visibility.proofs.laws.giving_changes_no_verdict.Goals as goal

pub returns : goal.returns
returns c = giving-unseen
