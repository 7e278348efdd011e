use Rattle.std.proofs.Common.{◌≡◌, subst, Some}
use Rattle.std.specs.Prelude.{MatchResult}
use Rattle.history.specs.World.{World, OpenSession, view, world_sessions}
use Rattle.session_steps.specs.Agrees.{Agrees}
use Rattle.session_core.specs.State.{WaitingView}
use Rattle.session_core.proofs.engine.Engine.read.Goals as goal
use Rattle.calls.specs.Bars.{BarsOpen}

pub returns : goal.returns
returns c =
    subst (λ (e : WaitingView). (w : World) → Agrees e.engine.core w → MatchResult c.read.result
    (λ row. (m : OpenSession) × (w.session c.args.s ≡ Some m) × (row ≡ view w.history m c.args.key)) (λ refusal. BarsOpen (world_sessions w) c.args.s refusal))
    c.self.view_is c.read.ensures
