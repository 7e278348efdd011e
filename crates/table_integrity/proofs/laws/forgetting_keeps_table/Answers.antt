use Rattle.table_integrity.proofs.Forgetting.{forgotten-table}
use Rattle.table_integrity.proofs.laws.forgetting_keeps_table.Goals as goal

pub returns : goal.returns
returns c = forgotten-table
