use Rattle.reasons.proofs.ReasonLemmas.{reason-one}
use Rattle.reasons.proofs.laws.reason_is_one.Goals as goal

pub returns : goal.returns
returns c = reason-one
