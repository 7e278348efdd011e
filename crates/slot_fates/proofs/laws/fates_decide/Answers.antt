use Rattle.slot_fates.proofs.FateLemmas.{fates-decide}
use Rattle.slot_fates.proofs.laws.fates_decide.Goals as goal

pub returns : goal.returns
returns c = fates-decide
