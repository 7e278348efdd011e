use Rattle.std.proofs.Common.{◌↔◌, IsTrue, subst}
use Rattle.commit_status.specs.Window.{Window, IsWindow, IsUpToNext}
use Rattle.session_steps.specs.State.{State}
use Rattle.session_steps.specs.Vacuums.{MayForget}
use Rattle.session_steps.proofs.Forgetting.{may-forget}
use Rattle.session_steps.proofs.engine.SessionEngine.may_forget.Goals as goal

pub returns-then-is_up_to_next : goal.returns-then-is_up_to_next
returns-then-is_up_to_next c =
    subst (λ (st : State). IsTrue c.own_from.result ↔ MayForget st c.args.cutoff.0) c.self.view_is
    (may-forget (record { settings = c.self.inside.settings; heap = c.self.inside.heap; sessions = c.self.inside.sessions }) c.places_in_use.result.now c.args.cutoff.0 c.own_from.result
    (subst IsWindow c.statuses-statuses.ensures c.fact_window.ensures) c.self.invariant
    (subst (λ (w : Window). IsUpToNext w c.args.cutoff.0) c.statuses-statuses.ensures (c.if-is_up_to_next.ensures.0 (search))) c.places_in_use.ensures c.own_from.ensures)
