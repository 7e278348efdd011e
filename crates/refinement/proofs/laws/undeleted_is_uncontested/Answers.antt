use Rattle.refinement.proofs.Uncontested.{undeleted_is_uncontested}
use Rattle.refinement.proofs.laws.undeleted_is_uncontested.Goals as goal

pub returns : goal.returns
returns c = undeleted_is_uncontested
