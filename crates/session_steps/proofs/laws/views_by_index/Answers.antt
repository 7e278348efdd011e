use Rattle.session_steps.proofs.ByIndex.{views-by-index}
use Rattle.session_steps.proofs.laws.views_by_index.Goals as goal

pub returns : goal.returns
returns c = views-by-index
