use Rattle.std.proofs.Common.{◌≡◌, ℕ, List, Result, refl, sym, ap, ◌∙◌, subst}
use Rattle.prune_actions.specs.declared.Action.{Action}
use Rattle.heap_write.specs.Heap.{HeapView}
use Rattle.heap_write.specs.Writes.{Applies}
use Rattle.heap_write.specs.Refusals.{Unapplied}
use Rattle.heap_write.specs.declared.applying.ApplyFault.{ApplyFault}
use Rattle.heap_write.specs.declared.applying.ApplyFault.TheVariants as apply_fault
use Rattle.calls.specs.Words.{PlanToApply}
use Rattle.calls.specs.declared.step.Step.TheVariants as step
use Rattle.calls.specs.declared.reply.Reply.TheVariants as reply
use Rattle.calls.specs.declared.reply.Refusal.{Refusal}
use Rattle.session_steps.specs.State.{State, horizon_of}
use Rattle.session_steps.specs.declared.outcome.Ack.{Ack}
use Rattle.session_steps.specs.Replies.{reply_to}
use Rattle.session_steps.specs.Exact.{AnswersStep, AppliesPlan}
use Rattle.session_steps.proofs.Cleaned.{Follows-apply, Follows-unapplied, named}
use Rattle.session_steps.proofs.engine.SessionEngine.apply_plan.Goals as goal
use Rattle.session_steps.proofs.engine.SessionEngine.apply_plan.Goals.{in-Ok, in-Err-NoSuchPage, in-Err-Stale}

pub returns : goal.returns
returns c =
    let before : State = record { settings = c.self.inside.settings; heap = c.self.inside.heap; sessions = c.self.inside.sessions } in
    let after : State = record before { heap = c.apply_if_checked.new.self } in
    let plan : PlanToApply = record { change = c.plan.inside.change; actions = c.plan.inside.actions.items } in
    let horizon : c.horizon-horizon.result.0 ≡ horizon_of before = c.horizon-horizon.ensures ∙ ap horizon_of (sym c.self.view_is) in
    let actions : c.as_slice-actions.result.now ≡ plan.actions = c.as_slice-actions.ensures.value in
    let P : PlanToApply → State → Type 0 = λ plan st. AnswersStep st (step.ApplyPlan c.args.page plan) (reply_to c.match-apply_if_checked.result) after in
    let R : Result Ack Refusal → Type 0 = λ r. AnswersStep before (step.ApplyPlan c.args.page plan) (reply_to r) after in
    let H : ℕ → List (ℕ × Action) → Type 0 = λ x actions. Applies before.heap after.heap c.args.page x plan.change actions in
    let U : ApplyFault → ℕ → List (ℕ × Action) → Type 0 = λ fault x actions. Unapplied before.heap c.args.page x plan.change actions fault in
    let G : ApplyFault → HeapView → Type 0 = λ fault h. AnswersStep before (step.ApplyPlan c.args.page plan) (reply.Refused (named fault)) (record before { heap = h }) in
    let left : (f g : ApplyFault) → f ≡ g → U f c.horizon-horizon.result.0 c.as_slice-actions.result.now → Unapplied before.heap c.args.page (horizon_of before) plan.change plan.actions g × (before ≡ before) = λ f g is u.
    (subst (λ x. U g x plan.actions) horizon (subst (U g c.horizon-horizon.result.0) actions (subst (λ f. U f c.horizon-horizon.result.0 c.as_slice-actions.result.now) is u)), refl) in
    subst (λ st. P c.args.plan.now st) c.self.view_is (subst (λ plan. P plan before) c.plan.view_is (elim c.match-apply_if_checked.branch [
      | in-Ok w ↦ (let a : AppliesPlan before after c.args.page plan = record {
        is = refl;
        heap = subst (λ x. H x plan.actions) horizon (subst (H c.horizon-horizon.result.0) actions w.in-Ok.ensures.ok);
      } in subst R (sym w.result-is) (record { follows = Follows-apply before after c.args.page plan a; exact = a }))
      | in-Err-NoSuchPage w ↦ subst R (sym w.result-is) (subst (G apply_fault.NoSuchPage) (sym w.in-Err-NoSuchPage.ensures.err) (record {
        follows = Follows-unapplied before c.args.page plan apply_fault.NoSuchPage;
        exact = left w.in-Err-NoSuchPage.field-0 apply_fault.NoSuchPage w.in-Err-NoSuchPage.field-0-is w.in-Err-NoSuchPage.ensures.fault;
      }))
      | in-Err-Stale w ↦ subst R (sym w.result-is) (subst (G apply_fault.Stale) (sym w.in-Err-Stale.ensures.err) (record {
        follows = Follows-unapplied before c.args.page plan apply_fault.Stale;
        exact = left w.in-Err-Stale.field-0 apply_fault.Stale w.in-Err-Stale.field-0-is w.in-Err-Stale.ensures.fault;
      }))
    ]))
