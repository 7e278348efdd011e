use Rattle.sound_page.proofs.SoundChains.{sound-unshared}
use Rattle.sound_page.proofs.sound_is_unshared.Goals as goal

pub returns : goal.returns
returns c = sound-unshared
