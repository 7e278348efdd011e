use Rattle.sound_entries.proofs.Finishing.{aborting-stays}
use Rattle.sound_entries.proofs.laws.aborting_keeps_entries.Goals as goal

pub returns : goal.returns
returns c = aborting-stays
