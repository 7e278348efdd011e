use Rattle.sound_vacuum.proofs.Running.{applying-goes_on}
use Rattle.sound_vacuum.proofs.vacuuming.applying_goes_on.Goals as goal

pub returns : goal.returns
returns c = applying-goes_on
