use Rattle.table_integrity.proofs.OneRow.{delete-takes}
use Rattle.table_integrity.proofs.readers.delete_takes_row.Goals as goal

pub returns : goal.returns
returns c = delete-takes
