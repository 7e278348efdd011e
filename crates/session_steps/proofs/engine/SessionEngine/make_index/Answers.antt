use Rattle.std.proofs.Common.{suc, sym, ap, subst}
use Rattle.commit_status.specs.Window.{Window}
use Rattle.heap_write.specs.Heap.{HeapView}
use Rattle.session_steps.specs.Keeps.{EngineKeeps}
use Rattle.session_steps.proofs.Marking.{keeps-marked}
use Rattle.session_steps.proofs.engine.SessionEngine.make_index.Goals as goal

pub invariant_of-self-2 : goal.invariant_of-self-2
invariant_of-self-2 c = keeps-marked (suc c.args.column) c.self.inside.sessions c.mark.new.self c.make_index.new.self.statuses c.mark.ensures
    (subst (λ (w : Window). EngineKeeps c.self.inside.sessions w) (sym (ap (λ (h : HeapView). h.statuses) c.in-Ok.ensures.made.is)) c.self.invariant)
