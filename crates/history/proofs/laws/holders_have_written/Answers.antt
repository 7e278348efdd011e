use Rattle.history.proofs.WrittenLemmas.{written-run, written-beginning}
use Rattle.history.proofs.laws.holders_have_written.Goals as goal

pub returns : goal.returns
returns c = λ columns w run. written-run run (written-beginning columns)
