use Rattle.sound_entries.proofs.Changes.{taking-stays}
use Rattle.sound_entries.proofs.laws.taking_keeps_entries.Goals as goal

pub returns : goal.returns
returns c = taking-stays
