use Rattle.table_integrity.proofs.Keeping.{nothing-stays}
use Rattle.table_integrity.proofs.laws.empty_table_is_sound.Goals as goal

pub returns : goal.returns
returns c = nothing-stays
