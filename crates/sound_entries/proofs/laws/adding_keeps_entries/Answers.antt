use Rattle.sound_entries.proofs.Changes.{adding-stays}
use Rattle.sound_entries.proofs.laws.adding_keeps_entries.Goals as goal

pub returns : goal.returns
returns c = adding-stays
