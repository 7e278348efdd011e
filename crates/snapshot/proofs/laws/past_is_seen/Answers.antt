use Rattle.snapshot.proofs.Sights.{past-seen}
use Rattle.snapshot.proofs.laws.past_is_seen.Goals as goal

pub returns : goal.returns
returns c = past-seen
