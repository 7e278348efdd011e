use Rattle.sound_entries.proofs.Changes.{growing-stays}
use Rattle.sound_entries.proofs.laws.pages_grow_sound.Goals as goal

pub returns : goal.returns
returns c = growing-stays
