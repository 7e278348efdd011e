use Rattle.sound_explanations.proofs.ShowingLemmas.{explanations-show-what-is-found}
use Rattle.sound_explanations.proofs.laws.explanations_show_what_is_found.Goals as goal

pub returns : goal.returns
returns c = explanations-show-what-is-found
