use Rattle.visibility.proofs.Parts.{other-part}
use Rattle.visibility.proofs.reader.Reader.counts_deletion.Goals as goal

pub returns-then-header-ne0 : goal.returns-then-header-ne0
returns-then-header-ne0 c = other-part c.reads.result _ _ c.if-header-ne0.true c.reads.ensures
