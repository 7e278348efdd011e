use Rattle.session_steps.proofs.Hindering.{barred-begin}
use Rattle.session_steps.proofs.engine.SessionEngine.may_begin.Goals as goal

pub returns-in_default : goal.returns-in_default
returns-in_default c = barred-begin c.args.self.now c.args.s c.in-Err.refusal c.in_default.not-NotOpen c.in-Err.ensures
