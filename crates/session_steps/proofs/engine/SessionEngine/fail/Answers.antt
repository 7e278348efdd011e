use Rattle.std.proofs.Common.{◌≡◌, length, refl, subst}
use Rattle.session_steps.specs.State.{State}
use Rattle.session_steps.proofs.StateLemmas.{keeps-ids, barred-idle, none-failed}
use Rattle.session_steps.proofs.engine.SessionEngine.fail.Goals as goal

pub invariant_of-self : goal.invariant_of-self
invariant_of-self c = keeps-ids c.self.inside.sessions c.self.inside.heap.statuses c.args.s c.open_mut.result.now _ c.open_mut.ensures.value refl c.self.invariant

pub returns-in-Err : goal.returns-in-Err
returns-in-Err c =
    let count = subst (λ (st : State). length st.sessions ≡ 64) c.self.view_is c.self.invariant.count in
    let still = none-failed c.args.self.now c.args.s (barred-idle c.args.self.now c.args.s c.in-Err.field-0 count c.in-Err.ensures) in
    let same = c.self.view_is in
    cc
