use Rattle.std.proofs.Common.{refl}
use Rattle.history.proofs.FewLemmas.{few-run}
use Rattle.history.proofs.laws.few_sessions_are_open.Goals as goal

pub returns : goal.returns
returns c = λ columns w run. few-run run (λ s far. refl)
