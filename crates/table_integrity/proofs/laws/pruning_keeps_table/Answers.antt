use Rattle.table_integrity.proofs.Keeping.{pruned-stays}
use Rattle.table_integrity.proofs.laws.pruning_keeps_table.Goals as goal

pub returns : goal.returns
returns c = pruned-stays
