use Rattle.sound_entries.proofs.Changes.{pruning-stays}
use Rattle.sound_entries.proofs.laws.pruning_keeps_entries.Goals as goal

pub returns : goal.returns
returns c = pruning-stays
