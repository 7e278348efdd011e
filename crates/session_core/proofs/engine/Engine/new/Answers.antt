use Rattle.std.proofs.Common.{List, Option, ℕ, None, refl, sym, subst}
use Rattle.vacuum_engine.specs.State.{EngineView}
use Rattle.vacuum_engine.proofs.NewEngines.{new-engine}
use Rattle.session_core.specs.Clauses.{IsNewWaiting}
use Rattle.session_core.specs.State.{with_waits}
use Rattle.session_core.proofs.WaitingSteps.{new-is_waiting}
use Rattle.session_core.proofs.engine.Engine.new.Goals as goal

pub returns-in-Ok-clause-new : goal.returns-in-Ok-clause-new
returns-in-Ok-clause-new c =
    let below : EngineView = record { core = c.in-Ok.core; vacuum = None } in
    subst (λ (waits : List (Option ℕ)). IsNewWaiting c.args.settings (with_waits below waits)) (sym c.new-waits.ensures)
    (new-is_waiting c.args.settings below (new-engine c.args.settings below c.in-Ok.ensures.new refl))
