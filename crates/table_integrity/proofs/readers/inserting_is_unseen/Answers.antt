use Rattle.table_integrity.proofs.Found.{inserting-unseen}
use Rattle.table_integrity.proofs.readers.inserting_is_unseen.Goals as goal

pub returns : goal.returns
returns c = inserting-unseen
