use Rattle.session_looks.proofs.Explained.{explanations-show-the-view}
use Rattle.session_looks.proofs.laws.explanations_show_the_view.Goals as goal

pub returns : goal.returns
returns c = explanations-show-the-view
