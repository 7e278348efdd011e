use Rattle.sound_vacuum.proofs.Cleaned.{applied-maps}
use Rattle.sound_vacuum.proofs.noting.applying_keeps_maps.Goals as goal

pub returns : goal.returns
returns c = applied-maps
