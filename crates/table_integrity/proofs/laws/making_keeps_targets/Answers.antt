use Rattle.table_integrity.proofs.Making.{made-led}
use Rattle.table_integrity.proofs.laws.making_keeps_targets.Goals as goal

pub returns : goal.returns
returns c = made-led
