use Rattle.tuple_writes.proofs.Statuses.{giving-sound}
use Rattle.tuple_writes.proofs.laws.giving_keeps_sound.Goals as goal

pub returns : goal.returns
returns c = giving-sound
