use Rattle.std.proofs.Common.{ℕ, List, Option, sym, subst}
use Rattle.commit_status.specs.declared.status.Status.{Status}
use Rattle.commit_status.specs.Window.{IsWindow}
use Rattle.status_cache.specs.Held.{KeepsCache}
use Rattle.session_core.proofs.Caching.{forgetting-keeps}
use Rattle.session_core.proofs.engine.Engine.forget.Goals as goal

pub invariant_of-self : goal.invariant_of-self
invariant_of-self c =
    subst (λ (cache : Option (List (ℕ × Status))). KeepsCache cache c.forget.new.self.heap.statuses) (sym c.truncate.ensures)
    (forgetting-keeps c.self.inside.cache c.self.inside.core c.forget.new.self c.args.cutoff.0 (subst IsWindow c.statuses.ensures c.fact_window.ensures)
    (subst IsWindow c.statuses-2.ensures c.fact_window-2.ensures) c.forget.ensures c.self.invariant)
