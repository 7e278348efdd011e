use Rattle.sound_entries.proofs.Finishing.{giving-stays}
use Rattle.sound_entries.proofs.laws.giving_keeps_entries.Goals as goal

pub returns : goal.returns
returns c = giving-stays
