use Rattle.sound_entries.proofs.Changes.{updating-stays}
use Rattle.sound_entries.proofs.laws.updating_keeps_entries.Goals as goal

pub returns : goal.returns
returns c = updating-stays
