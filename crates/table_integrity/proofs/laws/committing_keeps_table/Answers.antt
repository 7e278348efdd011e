use Rattle.table_integrity.proofs.Keeping.{committed-stays}
use Rattle.table_integrity.proofs.laws.committing_keeps_table.Goals as goal

pub returns : goal.returns
returns c = committed-stays
