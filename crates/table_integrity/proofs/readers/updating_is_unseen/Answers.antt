use Rattle.table_integrity.proofs.Found.{updating-unseen}
use Rattle.table_integrity.proofs.readers.updating_is_unseen.Goals as goal

pub returns : goal.returns
returns c = updating-unseen
