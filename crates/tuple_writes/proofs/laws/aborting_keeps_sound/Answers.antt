use Rattle.tuple_writes.proofs.Statuses.{aborting-sound}
use Rattle.tuple_writes.proofs.laws.aborting_keeps_sound.Goals as goal

pub returns : goal.returns
returns c = aborting-sound
