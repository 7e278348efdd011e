use Rattle.table_integrity.proofs.Found.{delete-found}
use Rattle.table_integrity.proofs.readers.delete_is_found.Goals as goal

pub returns : goal.returns
returns c = delete-found
