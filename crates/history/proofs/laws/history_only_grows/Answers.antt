use Rattle.history.proofs.RunLemmas.{Grows-run}
use Rattle.history.proofs.laws.history_only_grows.Goals as goal

pub returns : goal.returns
returns c = λ columns w after start run. Grows-run run
