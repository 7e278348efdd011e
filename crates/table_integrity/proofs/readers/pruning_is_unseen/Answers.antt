use Rattle.table_integrity.proofs.Found.{pruning-unseen}
use Rattle.table_integrity.proofs.readers.pruning_is_unseen.Goals as goal

pub returns : goal.returns
returns c = pruning-unseen
