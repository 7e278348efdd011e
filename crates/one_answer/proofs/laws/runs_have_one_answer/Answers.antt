use Rattle.one_answer.proofs.Ones.{have_one_answer}
use Rattle.one_answer.proofs.laws.runs_have_one_answer.Goals as goal

pub returns : goal.returns
returns c = have_one_answer
