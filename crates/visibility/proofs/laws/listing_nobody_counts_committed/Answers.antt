use Rattle.visibility.proofs.Statements.{statement-reads}
use Rattle.visibility.proofs.laws.listing_nobody_counts_committed.Goals as goal

pub returns : goal.returns
returns c = statement-reads
