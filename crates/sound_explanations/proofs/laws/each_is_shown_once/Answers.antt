use Rattle.sound_explanations.proofs.ShowingLemmas.{each-is-shown-once}
use Rattle.sound_explanations.proofs.laws.each_is_shown_once.Goals as goal

pub returns : goal.returns
returns c = each-is-shown-once
