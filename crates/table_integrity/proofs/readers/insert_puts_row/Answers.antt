use Rattle.table_integrity.proofs.OneRow.{insert-puts}
use Rattle.table_integrity.proofs.readers.insert_puts_row.Goals as goal

pub returns : goal.returns
returns c = insert-puts
