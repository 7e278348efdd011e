use Rattle.reasons.proofs.ReasonLemmas.{reason-decides}
use Rattle.reasons.proofs.laws.reasons_decide.Goals as goal

pub returns : goal.returns
returns c = reason-decides
