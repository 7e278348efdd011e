use Rattle.table_integrity.proofs.Keeping.{failed-stays}
use Rattle.table_integrity.proofs.laws.failing_update_keeps_table.Goals as goal

pub returns : goal.returns
returns c = failed-stays
