use Rattle.snapshot.proofs.Takes.{taken-in_window}
use Rattle.snapshot.proofs.laws.taken_is_in_window.Goals as goal

pub returns : goal.returns
returns c = taken-in_window
