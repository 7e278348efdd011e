use Rattle.std.proofs.Common.{◌≡◌, ◌∙◌, ◌<◌, None, length, ap, arith}
use Rattle.sessions.specs.Places.{open_at}
use Rattle.session_steps.specs.State.{State}
use Rattle.session_steps.proofs.StateLemmas.{keeps-open}
use Rattle.session_steps.proofs.engine.SessionEngine.open.Goals as goal

pub invariant_of-self : goal.invariant_of-self
invariant_of-self c =
    let count = c.self.invariant.count in
    let within : c.args.s < length c.self.inside.sessions = omega (arith, c.requires.within) in
    let idle : open_at c.self.inside.sessions c.args.s ≡ None = ap (λ (st : State). open_at st.sessions c.args.s) c.self.view_is ∙ c.requires.idle in
    keeps-open c.self.inside.sessions c.self.inside.heap.statuses c.args.s _ within idle c.new.ensures.ids c.self.invariant
