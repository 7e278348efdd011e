use Rattle.sound_entries.proofs.Changes.{thinning-stays}
use Rattle.sound_entries.proofs.laws.thinning_keeps_entries.Goals as goal

pub returns : goal.returns
returns c = thinning-stays
