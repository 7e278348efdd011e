use Rattle.table_integrity.proofs.Writing.{deleted-stays}
use Rattle.table_integrity.proofs.laws.deleting_keeps_table.Goals as goal

pub returns : goal.returns
returns c = deleted-stays
