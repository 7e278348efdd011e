use Rattle.prune.proofs.SoundAfter.{pruned-sound, pruned-keeps_chains}
use Rattle.prune.proofs.laws.sound_stays_sound.Goals as goal

pub returns : goal.returns
returns c = λ w horizon slots after sound p. (pruned-sound w horizon slots after sound p, pruned-keeps_chains w horizon slots after sound p)
