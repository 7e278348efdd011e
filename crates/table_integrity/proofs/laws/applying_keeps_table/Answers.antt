use Rattle.table_integrity.proofs.Keeping.{applied-stays}
use Rattle.table_integrity.proofs.laws.applying_keeps_table.Goals as goal

pub returns : goal.returns
returns c = applied-stays
