use Rattle.table_integrity.proofs.Writing.{updated-stays}
use Rattle.table_integrity.proofs.laws.updating_keeps_table.Goals as goal

pub returns : goal.returns
returns c = updated-stays
