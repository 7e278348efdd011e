use Rattle.visibility.proofs.HintLemmas.{hints-nothing}
use Rattle.visibility.proofs.hints.hints_change_no_verdict.Goals as goal

pub returns : goal.returns
returns c = hints-nothing
