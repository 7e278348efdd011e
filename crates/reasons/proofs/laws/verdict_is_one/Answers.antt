use Rattle.reasons.proofs.VerdictLemmas.{verdict-one}
use Rattle.reasons.proofs.laws.verdict_is_one.Goals as goal

pub returns : goal.returns
returns c = verdict-one
