use Rattle.std.proofs.Common.{sym, ap, subst}
use Rattle.std.proofs.lemmas.Result.{MatchResult-at_err}
use Rattle.std.specs.Prelude.{Option}
use Rattle.xid_circle.specs.declared.Tid.{Tid}
use Rattle.root_index.specs.declared.index.PositionHint.{PositionHint}
use Rattle.calls.specs.declared.step.Step.TheVariants as step
use Rattle.calls.specs.declared.reply.Reply.{Reply}
use Rattle.calls.specs.Writes.{deletes}
use Rattle.session_steps.specs.State.{State, refused_state}
use Rattle.session_steps.specs.Replies.{reply_to}
use Rattle.session_steps.specs.Exact.{AnswersStep}
use Rattle.session_steps.specs.Tests.{MayChangeKey, RefusesChangeOfKey}
use Rattle.session_steps.proofs.Hindering.{answers-hindered_delete, answers-unready}
use Rattle.session_steps.proofs.Outcomes.{handed-on}
use Rattle.session_steps.proofs.engine.SessionEngine.delete.Goals as goal

pub returns-in_err-session : goal.returns-in_err-session
returns-in_err-session c = rw (handed-on c.from_residual.result c.from_residual.ensures.1) (answers-unready c.args.self.now c.args.s (deletes c.args.key) c.in_err-session.field-0.0 c.in_err-session.ensures)

pub returns-in-Err : goal.returns-in-Err
returns-in-Err c =
    let st = c.args.self.now in
    let e = c.in_ok-session.session.now in
    let refused = MatchResult-at_err (λ (found : Tid × Option PositionHint). MayChangeKey st e c.args.key found.0) (λ refusal. RefusesChangeOfKey st e c.args.key refusal) c.in-Err.refusal c.in-Err.is c.check_change.ensures in
    let P : State → Reply → Type 0 = λ new reply. AnswersStep st (step.Delete c.args.s c.args.key) reply new in
    subst (λ (new : State). P new (reply_to c.refuse.result)) (sym c.refuse.ensures.state)
    (subst (λ (reply : Reply). P (refused_state st c.args.s c.in-Err.refusal) reply) (ap reply_to (sym c.refuse.ensures.answer))
    (answers-hindered_delete st c.args.s e c.args.key c.in-Err.refusal c.in_ok-session.ensures refused))
