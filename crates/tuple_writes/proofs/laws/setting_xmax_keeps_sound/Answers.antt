use Rattle.tuple_writes.proofs.Slotted.{taken-away}
use Rattle.tuple_writes.proofs.laws.setting_xmax_keeps_sound.Goals as goal

pub returns : goal.returns
returns c = taken-away
