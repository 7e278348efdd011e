use Rattle.table_integrity.proofs.Making.{made-since}
use Rattle.table_integrity.proofs.laws.making_keeps_since.Goals as goal

pub returns : goal.returns
returns c = made-since
