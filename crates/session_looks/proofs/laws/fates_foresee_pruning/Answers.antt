use Rattle.session_looks.proofs.Foreseen.{fates-foresee-pruning}
use Rattle.session_looks.proofs.laws.fates_foresee_pruning.Goals as goal

pub returns : goal.returns
returns c = fates-foresee-pruning
