use Rattle.table_integrity.proofs.Found.{insert-found}
use Rattle.table_integrity.proofs.readers.insert_is_found.Goals as goal

pub returns : goal.returns
returns c = insert-found
