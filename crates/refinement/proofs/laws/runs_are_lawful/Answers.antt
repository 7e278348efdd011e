use Rattle.refinement.proofs.Runs.{lawful}
use Rattle.refinement.proofs.laws.runs_are_lawful.Goals as goal

pub returns : goal.returns
returns c = lawful
