use Rattle.snapshot.proofs.Sights.{finished-seen}
use Rattle.snapshot.proofs.laws.finished_is_seen.Goals as goal

pub returns : goal.returns
returns c = finished-seen
