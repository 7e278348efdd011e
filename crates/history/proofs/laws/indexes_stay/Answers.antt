use Rattle.history.proofs.RunLemmas.{indexes-run}
use Rattle.history.proofs.laws.indexes_stay.Goals as goal

pub returns : goal.returns
returns c = λ columns w after start run. indexes-run run
