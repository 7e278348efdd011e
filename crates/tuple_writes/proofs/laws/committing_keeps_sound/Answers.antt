use Rattle.tuple_writes.proofs.Statuses.{committing-sound}
use Rattle.tuple_writes.proofs.laws.committing_keeps_sound.Goals as goal

pub returns : goal.returns
returns c = committing-sound
