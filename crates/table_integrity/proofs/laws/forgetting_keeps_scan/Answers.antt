use Rattle.table_integrity.proofs.Forgetting.{forgotten-scan}
use Rattle.table_integrity.proofs.laws.forgetting_keeps_scan.Goals as goal

pub returns : goal.returns
returns c = forgotten-scan
