use Rattle.table_integrity.proofs.Writing.{inserted-stays}
use Rattle.table_integrity.proofs.laws.inserting_keeps_table.Goals as goal

pub returns : goal.returns
returns c = inserted-stays
