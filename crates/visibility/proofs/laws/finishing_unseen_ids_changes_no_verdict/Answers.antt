use Rattle.visibility.proofs.Verdicts.{finishing-unseen}
use Rattle.visibility.proofs.laws.finishing_unseen_ids_changes_no_verdict.Goals as goal

pub returns : goal.returns
returns c = finishing-unseen
