use Rattle.sound_entries.proofs.Tables.{nothing-sound}
use Rattle.sound_entries.proofs.laws.no_entries_are_sound.Goals as goal

pub returns : goal.returns
returns c = nothing-sound
