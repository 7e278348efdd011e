use Rattle.history.proofs.RunLemmas.{never_late}
use Rattle.history.proofs.laws.no_write_by_statement_is_late.Goals as goal

pub returns : goal.returns
returns c = λ w. never_late w
