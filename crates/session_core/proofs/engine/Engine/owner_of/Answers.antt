use Rattle.std.proofs.Common.{subst}
use Rattle.std.specs.Prelude.{ℕ, MatchOption}
use Rattle.session_core.specs.State.{WaitingView}
use Rattle.session_looks.specs.Holders.{HasId}
use Rattle.session_core.proofs.engine.Engine.owner_of.Goals as goal

pub returns-clause-owner : goal.returns-clause-owner
returns-clause-owner c =
    subst (λ (v : WaitingView). MatchOption c.owner_of.result ((s : ℕ) → ¬ HasId v.engine.core c.args.x.0 s) (HasId v.engine.core c.args.x.0)) c.self.view_is c.owner_of.ensures.owner
