use Rattle.table_integrity.proofs.Making.{made-sound}
use Rattle.table_integrity.proofs.laws.making_leaves_table_sound.Goals as goal

pub returns : goal.returns
returns c = made-sound
