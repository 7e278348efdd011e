use Rattle.std.proofs.Common.{rules, sym, ap, subst}
use Rattle.std.proofs.lemmas.Result.{MatchResult-at_err}
use Rattle.calls.specs.Words.{FitsRow}
use Rattle.calls.specs.Writes.{inserts}
use Rattle.calls.specs.declared.step.Step.TheVariants as step
use Rattle.calls.specs.declared.reply.Reply.{Reply}
use Rattle.session_steps.specs.State.{State, refused_state}
use Rattle.session_steps.specs.Writes.{worded}
use Rattle.session_steps.specs.Replies.{reply_to}
use Rattle.session_steps.specs.Exact.{AnswersStep}
use Rattle.session_steps.specs.Tests.{MayInsertKey, RefusesInsertOfKey}
use Rattle.session_steps.proofs.Hindering.{answers-hindered_insert, answers-unready}
use Rattle.session_steps.proofs.Trying.{MayTryAt, no_place}
use Rattle.session_steps.proofs.Outcomes.{handed-on}
use Rattle.session_steps.proofs.engine.SessionEngine.insert_row.Goals as goal

pub returns-in_err-session : goal.returns-in_err-session
returns-in_err-session c = rw (handed-on c.from_residual.result c.from_residual.ensures.1) (answers-unready c.args.self.now c.args.s (inserts (worded c.args.row.now)) c.in_err-session.field-0.0 c.in_err-session.ensures)

pub add-requires-clause-may : goal.add-requires-clause-may
add-requires-clause-may c =
    subst (λ (st : State). MayTryAt st c.args.s (inserts (worded c.args.row.now)) no_place) (sym c.expect_entry.ensures) (c.in_ok-session.session.now, c.in_ok-session.ensures, c.in-Ok.ensures)

pub returns-in-Ok : goal.returns-in-Ok
returns-in-Ok c = subst (λ (st : State). AnswersStep st (step.Insert c.args.s (worded c.args.row.now)) (reply_to c.add.result) c.add.new.self) c.expect_entry.ensures c.add.ensures

pub returns-in-Err : goal.returns-in-Err
returns-in-Err c =
    let st = c.args.self.now in
    let e = c.in_ok-session.session.now in
    let row = worded c.args.row.now in
    let fits : FitsRow row = search rules in
    let refused = MatchResult-at_err (λ _. MayInsertKey st e row.key) (λ refusal. RefusesInsertOfKey st e row.key refusal) c.in-Err.refusal c.in-Err.is c.check_insert.ensures in
    let P : State → Reply → Type 0 = λ new reply. AnswersStep st (step.Insert c.args.s row) reply new in
    subst (λ (new : State). P new (reply_to c.refuse.result)) (sym c.refuse.ensures.state)
    (subst (λ (reply : Reply). P (refused_state st c.args.s c.in-Err.refusal) reply) (ap reply_to (sym c.refuse.ensures.answer))
    (answers-hindered_insert st c.args.s e row c.in-Err.refusal fits c.in_ok-session.ensures refused))
