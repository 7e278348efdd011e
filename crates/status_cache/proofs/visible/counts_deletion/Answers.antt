use Rattle.visibility.proofs.Parts.{other-part}
use Rattle.status_cache.proofs.visible.counts_deletion.Goals as goal

pub returns-then-header-ne0-clause-value : goal.returns-then-header-ne0-clause-value
returns-then-header-ne0-clause-value c = other-part c.reads.result _ _ c.if-header-ne0.true c.reads.ensures.value
