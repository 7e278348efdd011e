use Rattle.table_integrity.proofs.Found.{deleting-unseen}
use Rattle.table_integrity.proofs.readers.deleting_is_unseen.Goals as goal

pub returns : goal.returns
returns c = deleting-unseen
