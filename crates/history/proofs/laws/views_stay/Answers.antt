use Rattle.history.proofs.RunLemmas.{Lawful-beginning, Lawful-run, KeepsView-step}
use Rattle.history.proofs.laws.views_stay.Goals as goal

pub returns : goal.returns
returns c = λ columns w after s other run step ne. KeepsView-step s (Lawful-run run (Lawful-beginning columns)) step ne
