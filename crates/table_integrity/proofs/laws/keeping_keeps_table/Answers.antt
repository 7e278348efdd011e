use Rattle.table_integrity.proofs.Keeping.{kept-stays}
use Rattle.table_integrity.proofs.laws.keeping_keeps_table.Goals as goal

pub returns : goal.returns
returns c = kept-stays
