use Rattle.std.proofs.Common.{sym, subst}
use Rattle.commit_status.specs.Window.{IsWindow}
use Rattle.session_steps.specs.State.{State}
use Rattle.session_steps.specs.Vacuums.{MayForget}
use Rattle.session_steps.proofs.Forgetting.{keeps-forget}
use Rattle.session_steps.proofs.engine.SessionEngine.forget.Goals as goal

pub invariant_of-self : goal.invariant_of-self
invariant_of-self c =
    let may : MayForget (record { settings = c.self.inside.settings; heap = c.self.inside.heap; sessions = c.self.inside.sessions }) c.args.cutoff.0 =
    subst (λ (st : State). MayForget st c.args.cutoff.0) (sym c.self.view_is) (c.may_forget.ensures.0 c.if-may_forget.true) in
    keeps-forget c.self.inside.sessions c.self.inside.heap.statuses c.forget.new.self.statuses c.args.cutoff.0 (subst IsWindow c.statuses.ensures c.fact_window.ensures) c.forget.ensures.window
    c.forget.ensures.forgets.truncates may.upto may.unowned c.self.invariant
