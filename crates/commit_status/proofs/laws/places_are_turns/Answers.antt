use Rattle.commit_status.proofs.WindowLaws.{places-turns}
use Rattle.commit_status.proofs.laws.places_are_turns.Goals as goal

pub returns : goal.returns
returns c = places-turns
