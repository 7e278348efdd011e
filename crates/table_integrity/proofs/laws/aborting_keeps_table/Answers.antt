use Rattle.table_integrity.proofs.Keeping.{aborted-stays}
use Rattle.table_integrity.proofs.laws.aborting_keeps_table.Goals as goal

pub returns : goal.returns
returns c = aborted-stays
