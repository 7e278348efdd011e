use Rattle.history.proofs.RunLemmas.{Lawful-beginning, Lawful-run}
use Rattle.history.proofs.laws.held_keys_are_in_time.Goals as goal

pub returns : goal.returns
returns c = λ columns w run. (Lawful-run run (Lawful-beginning columns)).in_time
