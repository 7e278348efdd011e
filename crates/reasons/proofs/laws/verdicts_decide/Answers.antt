use Rattle.reasons.proofs.VerdictLemmas.{verdict-decides}
use Rattle.reasons.proofs.laws.verdicts_decide.Goals as goal

pub returns : goal.returns
returns c = verdict-decides
