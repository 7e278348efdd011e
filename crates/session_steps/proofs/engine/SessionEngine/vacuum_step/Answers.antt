use Rattle.std.proofs.Common.{sym, ap, ◌∙◌, subst}
use Rattle.commit_status.specs.Window.{Window}
use Rattle.heap_write.specs.Heap.{HeapView}
use Rattle.session_steps.specs.Keeps.{EngineKeeps}
use Rattle.session_steps.proofs.Forgetting.{steps-table}
use Rattle.session_steps.proofs.engine.SessionEngine.vacuum_step.Goals as goal

pub invariant_of-self : goal.invariant_of-self
invariant_of-self c =
    subst (λ (w : Window). EngineKeeps c.self.inside.sessions w) (sym (steps-table _ _ _ 0 _ _ (c.in-Some.ensures.step 0))) c.self.invariant

pub invariant_of-self-in-None-2 : goal.invariant_of-self-in-None-2
invariant_of-self-in-None-2 c =
    subst (λ (w : Window). EngineKeeps c.self.inside.sessions w)
    (sym (steps-table _ _ _ _ _ _ c.step.ensures ∙ ap (λ (h : HeapView). h.statuses) c.in-None.ensures.step.1)) c.self.invariant
