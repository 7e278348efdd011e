use Rattle.table_integrity.proofs.Found.{applying-unseen}
use Rattle.table_integrity.proofs.readers.applying_is_unseen.Goals as goal

pub returns : goal.returns
returns c = applying-unseen
