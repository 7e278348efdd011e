use Rattle.tuple_writes.proofs.Slotted.{root-added}
use Rattle.tuple_writes.proofs.laws.adding_keeps_sound.Goals as goal

pub returns : goal.returns
returns c = root-added
