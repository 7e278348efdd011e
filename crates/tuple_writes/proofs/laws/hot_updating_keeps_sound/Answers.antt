use Rattle.tuple_writes.proofs.Slotted.{updated-here}
use Rattle.tuple_writes.proofs.laws.hot_updating_keeps_sound.Goals as goal

pub returns : goal.returns
returns c = updated-here
