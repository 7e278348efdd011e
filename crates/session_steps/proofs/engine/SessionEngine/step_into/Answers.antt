use Rattle.std.proofs.Common.{◌≡◌, Result, true, false, refl, sym, subst, ap, ◌∙◌}
use Rattle.calls.specs.Bounds.{HasBounds}
use Rattle.calls.specs.declared.step.Step.{Step}
use Rattle.calls.specs.declared.reply.Reply.{Reply}
use Rattle.session_steps.specs.declared.outcome.Ack.{Ack}
use Rattle.calls.specs.declared.reply.Refusal.{Refusal}
use Rattle.session_steps.specs.State.{State, is_answered_above}
use Rattle.session_steps.specs.Replies.{reply_to}
use Rattle.session_steps.specs.Exact.{AnswersStep}
use Rattle.session_steps.proofs.CursorSteps.{stored-step}
use Rattle.session_steps.proofs.KeySteps.{stored-open_keys}
use Rattle.session_steps.proofs.engine.SessionEngine.step_into.Goals as goal
use Rattle.session_steps.proofs.engine.SessionEngine.step_into.Goals.{in-Begin, in-BeginReadCommitted, in-Insert, in-Update, in-Delete, in-Savepoint, in-RollbackTo, in-Release, in-OpenIndex, in-OpenHeap, in-OpenKeys, in-Close, in-Commit, in-Abort, in-Prune, in-ApplyPlan}

-- of the step that was asked for, and what came of it
told : {step asked : Step} {answer came : Result Ack Refusal} {new after : State} (P : Step → Result Ack Refusal → State → Type 0) → step ≡ asked → answer ≡ came → new ≡ after → P asked came after → P step answer new
told {step} {asked} {answer} {came} {new} {after} P is was now holds =
    subst (λ st. P step answer st) (sym now) (subst (λ o. P step o after) (sym was) (subst (λ s. P s came after) (sym is) holds))

-- it is not both
not-both : (step : Step) → is_answered_above step ≡ false → is_answered_above step ≡ true → ⊥
not-both step beside of_vacuum = absurd (let e : false ≡ true = sym beside ∙ of_vacuum in cc)

pub returns-in-Get : goal.returns-in-Get
returns-in-Get c =
    let does = subst (λ (step : Step). AnswersStep c.args.self.now step c.get.new.reply c.args.self.now) (sym c.in-Get.is) c.get.ensures in
    record { answers = λ beside. does; stays = λ of_vacuum. absurd (not-both c.args.step (ap is_answered_above c.in-Get.is) of_vacuum) }

pub returns-in-Next : goal.returns-in-Next
returns-in-Next c =
    let does = subst (λ (step : Step). AnswersStep c.args.self.now step c.next_into.new.reply c.next_into.new.self) (sym c.in-Next.is) c.next_into.ensures in
    record { answers = λ beside. does; stays = λ of_vacuum. absurd (not-both c.args.step (ap is_answered_above c.in-Next.is) of_vacuum) }

pub returns-in-TakePage : goal.returns-in-TakePage
returns-in-TakePage c =
    let does = subst (λ (step : Step). AnswersStep c.args.self.now step c.read_page.new.reply c.args.self.now) (sym c.in-TakePage.is) c.read_page.ensures in
    record { answers = λ beside. does; stays = λ of_vacuum. absurd (not-both c.args.step (ap is_answered_above c.in-TakePage.is) of_vacuum) }

pub returns : goal.returns
returns c =
    let P : Step → Result Ack Refusal → State → Type 0 = λ step answer new. AnswersStep c.args.self.now step (reply_to answer) new × (is_answered_above step ≡ false) in
    let B : Step → Type 0 = λ step. HasBounds step in
    let does : P c.args.step c.match-step.answer c.match-step.self = elim c.match-step.branch [
      | in-Begin w ↦ told P w.in-Begin.is w.answer-is w.self-is (w.begin-answer.ensures, refl)
      | in-BeginReadCommitted w ↦ told P w.in-BeginReadCommitted.is w.answer-is w.self-is (w.begin_read_committed-answer.ensures, refl)
      | in-Insert w ↦ told P w.in-Insert.is w.answer-is w.self-is (w.insert-answer.ensures, refl)
      | in-Update w ↦ told P w.in-Update.is w.answer-is w.self-is (w.update-answer.ensures, refl)
      | in-Delete w ↦ told P w.in-Delete.is w.answer-is w.self-is (w.delete-answer.ensures, refl)
      | in-Savepoint w ↦ told P w.in-Savepoint.is w.answer-is w.self-is (w.savepoint-answer.ensures, refl)
      | in-RollbackTo w ↦ told P w.in-RollbackTo.is w.answer-is w.self-is (w.rollback_to-answer.ensures, refl)
      | in-Release w ↦ told P w.in-Release.is w.answer-is w.self-is (w.release-answer.ensures, refl)
      | in-OpenIndex w ↦ (let fits = subst B w.in-OpenIndex.is c.fact_bounds.ensures in
          told P (w.in-OpenIndex.is ∙ sym (stored-step w.in-OpenIndex.s w.in-OpenIndex.index w.in-OpenIndex.low w.in-OpenIndex.high fits.0 fits.1)) w.answer-is w.self-is (w.open_index-answer.ensures, refl))
      | in-OpenHeap w ↦ told P w.in-OpenHeap.is w.answer-is w.self-is (w.open_heap-answer.ensures, refl)
      | in-OpenKeys w ↦ (let fits = subst B w.in-OpenKeys.is c.fact_bounds.ensures in
          told P (w.in-OpenKeys.is ∙ sym (stored-open_keys w.in-OpenKeys.s w.in-OpenKeys.low w.in-OpenKeys.high fits.0 fits.1)) w.answer-is w.self-is (w.open_keys-answer.ensures, refl))
      | in-Close w ↦ told P w.in-Close.is w.answer-is w.self-is (w.close_cursor-answer.ensures, refl)
      | in-Commit w ↦ told P w.in-Commit.is w.answer-is w.self-is (w.commit-answer.ensures, refl)
      | in-Abort w ↦ told P w.in-Abort.is w.answer-is w.self-is (w.abort-answer.ensures, refl)
      | in-Prune w ↦ told P w.in-Prune.is w.answer-is w.self-is (w.prune-answer.ensures, refl)
      | in-ApplyPlan w ↦ told P w.in-ApplyPlan.is w.answer-is w.self-is (w.apply_plan-answer.ensures, refl)
    ] in
    record {
      answers = λ beside. subst (λ (reply : Reply). AnswersStep c.args.self.now c.args.step reply c.match-step.self) (sym c.put_reply.ensures) does.0;
      stays = λ of_vacuum. absurd (not-both c.args.step does.1 of_vacuum);
    }
