use Rattle.status_cache.proofs.Agreeing.{finishing-keeps}
use Rattle.status_cache.proofs.laws.finishing_keeps_cache.Goals as goal

pub returns : goal.returns
returns c = finishing-keeps
