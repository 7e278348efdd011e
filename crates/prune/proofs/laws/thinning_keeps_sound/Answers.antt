use Rattle.prune.proofs.Thinned.{thinned-sound, thinned-keeps_chains}
use Rattle.prune.proofs.laws.thinning_keeps_sound.Goals as goal

pub returns : goal.returns
returns c = λ w horizon slots after sound p. (thinned-sound w horizon slots after sound p, thinned-keeps_chains w horizon slots after sound p)
