use Rattle.slot_fates.proofs.FateLemmas.{fate-one}
use Rattle.slot_fates.proofs.laws.fate_is_one.Goals as goal

pub returns : goal.returns
returns c = fate-one
