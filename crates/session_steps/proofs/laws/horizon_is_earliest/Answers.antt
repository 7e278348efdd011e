use Rattle.session_steps.proofs.AllHeld.{horizon-is-earliest}
use Rattle.session_steps.proofs.laws.horizon_is_earliest.Goals as goal

pub returns : goal.returns
returns c = horizon-is-earliest
