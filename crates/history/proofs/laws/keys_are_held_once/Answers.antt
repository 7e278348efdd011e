use Rattle.history.proofs.RunLemmas.{Lawful-beginning, Lawful-run}
use Rattle.history.proofs.laws.keys_are_held_once.Goals as goal

pub returns : goal.returns
returns c = λ columns w run. (Lawful-run run (Lawful-beginning columns)).once
