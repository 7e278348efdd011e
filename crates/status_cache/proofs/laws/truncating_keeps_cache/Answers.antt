use Rattle.status_cache.proofs.Agreeing.{truncating-keeps}
use Rattle.status_cache.proofs.laws.truncating_keeps_cache.Goals as goal

pub returns : goal.returns
returns c = truncating-keeps
