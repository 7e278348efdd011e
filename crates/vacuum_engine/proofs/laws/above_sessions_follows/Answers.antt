use Rattle.vacuum_engine.proofs.Vacuums.{above-follows}
use Rattle.vacuum_engine.proofs.laws.above_sessions_follows.Goals as goal

pub returns : goal.returns
returns c = above-follows
