use Rattle.history.proofs.RunLemmas.{Lawful-beginning, Lawful-run}
use Rattle.history.proofs.laws.no_index_is_too_new_by_statement.Goals as goal

pub returns : goal.returns
returns c = λ columns w run. (Lawful-run run (Lawful-beginning columns)).scans
