use Rattle.vacuum_engine.proofs.Failing.{failing-agrees}
use Rattle.vacuum_engine.proofs.laws.failing_agrees.Goals as goal

pub returns : goal.returns
returns c = failing-agrees
