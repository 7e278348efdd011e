use Rattle.std.proofs.lemmas.Option.{none-some}
use Rattle.history.proofs.FewLemmas.{levels-run}
use Rattle.history.proofs.laws.few_savepoints_are_kept.Goals as goal

pub returns : goal.returns
returns c = λ columns w run. levels-run run (λ s m at. absurd (none-some m at))
