use Rattle.sound_entries.proofs.Finishing.{committing-stays}
use Rattle.sound_entries.proofs.laws.committing_keeps_entries.Goals as goal

pub returns : goal.returns
returns c = committing-stays
