use Rattle.table_integrity.proofs.OneRow.{update-puts}
use Rattle.table_integrity.proofs.readers.update_puts_row.Goals as goal

pub returns : goal.returns
returns c = update-puts
