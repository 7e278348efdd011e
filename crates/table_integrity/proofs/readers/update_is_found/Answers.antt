use Rattle.table_integrity.proofs.Found.{update-found}
use Rattle.table_integrity.proofs.readers.update_is_found.Goals as goal

pub returns : goal.returns
returns c = update-found
