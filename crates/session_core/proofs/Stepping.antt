-- A step that is no vacuum's, beside one that may be running.
use Rattle.std.proofs.Common.{◌≡◌, ℕ, false, Option, Some, None, sym, ap, ◌∙◌, subst}
use Rattle.std.specs.Prelude.{MatchOption}
use Rattle.xid_circle.specs.declared.Xid.{Xid}
use Rattle.heap_write.specs.Heap.{HeapView}
use Rattle.calls.specs.declared.vacuum.Mode.TheVariants.{Normal, Aggressive}
use Rattle.session_steps.specs.State.{State, is_answered_above, horizon_of}
use Rattle.session_steps.specs.Vacuums.{VacuumWorks, Forgets}
use Rattle.vacuum_passes.specs.View.{VacuumView}
use Rattle.vacuum_passes.specs.Steps.{Steps}
use Rattle.calls.specs.declared.step.Step.{Step}
use Rattle.calls.specs.declared.step.Step.TheVariants as step
use Rattle.calls.specs.declared.reply.Reply.{Reply}
use Rattle.vacuum_engine.specs.State.{EngineView}
use Rattle.vacuum_engine.specs.Exact.{ExactBesideVacuum, EngineExact, DoesEnd}

pub beside-exact : (old new : EngineView) (step : Step) (reply : Reply) → is_answered_above step ≡ false → ExactBesideVacuum old step reply new → EngineExact old step reply new
beside-exact old new (step.VacuumBegin mode) reply off exact = absurd (cc off)
beside-exact old new step.VacuumStep reply off exact = absurd (cc off)
beside-exact old new step.VacuumCancel reply off exact = absurd (cc off)
beside-exact old new (step.CreateIndex c) reply off exact = absurd (cc off)
beside-exact old new step reply off exact = exact

-- Its end.

-- where nothing is left to do nothing changes
ended-same : (h h' : HeapView) (v : VacuumView) (horizon : ℕ) → Steps h h' v horizon None None → h' ≡ h
ended-same h h' v horizon (Steps.ends is over none same) = same

module _ (old new : EngineView) (v : VacuumView) (mid : State) (running : old.vacuum ≡ Some v) (works : VacuumWorks old.core mid v None None) (gone : new.vacuum ≡ None) where
  heap-same : mid.heap ≡ old.core.heap
  heap-same = ended-same old.core.heap mid.heap v (horizon_of old.core) works.steps

  mid-same : mid ≡ old.core
  mid-same = works.is ∙ ap (λ (h : HeapView). record old.core { heap = h }) heap-same

  steps-same : Steps old.core.heap old.core.heap v (horizon_of old.core) None None
  steps-same = subst (λ (h : HeapView). Steps old.core.heap h v (horizon_of old.core) None None) heap-same works.steps

  pub ended : (cutoff : Option Xid) → MatchOption cutoff (v.mode ≡ Normal) (λ x. (v.mode ≡ Aggressive) × (x.0 ≡ v.cutoff))
      → MatchOption cutoff (new.core ≡ mid) (λ x. Forgets mid new.core x.0) → DoesEnd old new
  ended None normal same = record {
    vacuum = v;
    running = running;
    steps = steps-same;
    none = gone;
    keeps = λ _. same ∙ mid-same;
    forgets = λ aggressive. absurd (let f : Normal ≡ Aggressive = sym normal ∙ aggressive in cc);
  }
  ended (Some x) aggressive f =
      let forgets = subst (λ (st : State). Forgets st new.core v.cutoff) mid-same (subst (λ c. Forgets mid new.core c) aggressive.1 f) in
      record {
        vacuum = v;
        running = running;
        steps = steps-same;
        none = gone;
        keeps = λ normal. absurd (let g : Normal ≡ Aggressive = sym normal ∙ aggressive.0 in cc);
        forgets = λ _. forgets;
      }
