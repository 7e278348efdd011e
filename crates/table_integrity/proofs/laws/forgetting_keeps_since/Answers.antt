use Rattle.table_integrity.proofs.Forgetting.{forgotten-since}
use Rattle.table_integrity.proofs.laws.forgetting_keeps_since.Goals as goal

pub returns : goal.returns
returns c = forgotten-since
