use Rattle.std.proofs.Common.{◌↔◌, ◌≤◌, ℕ, ◌∙◌, ap, subst}
use Rattle.commit_status.specs.Window.{Window}
use Rattle.commit_status.specs.Changes.{CanGive}
use Rattle.session_core.specs.State.{WaitingView}
use Rattle.session_core.proofs.engine.Engine.ids_left.Goals as goal

pub returns : goal.returns
returns c =
    let is = c.statuses.ensures ∙ ap (λ (e : WaitingView). e.engine.core.heap.statuses) c.self.view_is in
    subst (λ (w : Window). (n : ℕ) → CanGive w n ↔ (n ≤ c.ids_left.result)) is c.ids_left.ensures
