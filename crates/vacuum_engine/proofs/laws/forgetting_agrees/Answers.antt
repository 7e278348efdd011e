use Rattle.vacuum_engine.proofs.Forgetting.{forgetting-agrees}
use Rattle.vacuum_engine.proofs.laws.forgetting_agrees.Goals as goal

pub returns : goal.returns
returns c = forgetting-agrees
