use Rattle.std.proofs.Common.{refl}
use Rattle.session_steps.proofs.StateLemmas.{keeps-ids}
use Rattle.session_steps.proofs.engine.SessionEngine.put_cursor.Goals as goal

pub invariant_of-self : goal.invariant_of-self
invariant_of-self c = keeps-ids c.self.inside.sessions c.self.inside.heap.statuses c.args.s c.open_mut-session.result.now _ c.open_mut-session.ensures.value refl c.self.invariant
