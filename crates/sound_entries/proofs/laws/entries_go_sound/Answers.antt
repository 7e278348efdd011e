use Rattle.sound_entries.proofs.Tables.{going-stays}
use Rattle.sound_entries.proofs.laws.entries_go_sound.Goals as goal

pub returns : goal.returns
returns c = going-stays
