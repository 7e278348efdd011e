use Rattle.sound_vacuum.proofs.Written.{steps-true}
use Rattle.sound_vacuum.proofs.noting.steps_keep_maps.Goals as goal

pub returns : goal.returns
returns c = steps-true
