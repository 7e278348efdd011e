use Rattle.std.proofs.Common.{rules, ◌∙◌, sym, ap, subst}
use Rattle.std.proofs.lemmas.Option.{none-some}
use Rattle.std.proofs.lemmas.Result.{MatchResult-at_err}
use Rattle.xid_circle.specs.declared.Tid.{Tid}
use Rattle.root_index.specs.declared.index.PositionHint.{PositionHint}
use Rattle.std.specs.Prelude.{Option}
use Rattle.heap_write.specs.Refusals.{VersionIsThere}
use Rattle.calls.specs.Words.{FitsRow}
use Rattle.calls.specs.Writes.{updates}
use Rattle.calls.specs.declared.step.Step.TheVariants as step
use Rattle.calls.specs.declared.reply.Reply.{Reply}
use Rattle.session_steps.specs.State.{State, refused_state, horizon_of}
use Rattle.session_steps.specs.Writes.{outcome_of, worded}
use Rattle.session_steps.specs.Replies.{reply_to}
use Rattle.session_steps.specs.Exact.{AnswersStep}
use Rattle.session_steps.specs.Tests.{MayChangeKey, RefusesChangeOfKey}
use Rattle.session_steps.proofs.Hindering.{answers-hindered_update, answers-unready}
use Rattle.session_steps.proofs.StateLemmas.{with_own}
use Rattle.session_steps.proofs.Giving.{with_write}
use Rattle.session_steps.proofs.Trying.{MayTryAt, newest-given, change-there, tries-update, keeps-tried, answers-tried}
use Rattle.session_steps.proofs.Outcomes.{handed-on}
use Rattle.session_steps.proofs.engine.SessionEngine.update_row.Goals as goal

pub returns-in_err-session : goal.returns-in_err-session
returns-in_err-session c = rw (handed-on c.from_residual.result c.from_residual.ensures.1) (answers-unready c.args.self.now c.args.s (updates (worded c.args.row.now)) c.in_err-session.field-0.0 c.in_err-session.ensures)

pub update_on_full_page-requires-clause-may : goal.update_on_full_page-requires-clause-may
update_on_full_page-requires-clause-may c =
    subst (λ (st : State). MayTryAt st c.args.s (updates (worded c.args.row.now)) c.in-Ok.place) (sym c.expect_entry.ensures) (c.in_ok-session.session.now, c.in_ok-session.ensures, c.in-Ok.ensures)

pub returns-in_default : goal.returns-in_default
returns-in_default c = subst (λ (st : State). AnswersStep st (step.Update c.args.s (worded c.args.row.now)) (reply_to c.update_on_full_page.result) c.update_on_full_page.new.self) c.expect_entry.ensures c.update_on_full_page.ensures

pub open_mut-writer-requires : goal.open_mut-writer-requires
open_mut-writer-requires c =
    let M : State → Type 0 = λ st. MayTryAt st c.args.s (updates (worded c.args.row.now)) c.in-Ok.place in
    let may = subst M (sym (c.self.view_is ∙ c.expect_entry.ensures)) (c.in_ok-session.session.now, c.in_ok-session.ensures, c.in-Ok.ensures) in
    λ none. none-some may.0 (sym none ∙ may.1.1)

pub update_on_page-requires-clause-newest : goal.update_on_page-requires-clause-newest
update_on_page-requires-clause-newest c =
    let e = c.open_mut-writer.result.now in
    newest-given c.self.inside.heap.statuses e.own.ids e.own.saved c.fact_prefixes.ensures.prefixes (λ x mine. c.self.invariant.own.active c.args.s e x c.open_mut-writer.ensures.value mine)

pub update_on_page-requires-clause-there : goal.update_on_page-requires-clause-there
update_on_page-requires-clause-there c =
    subst (λ (st : State). VersionIsThere st.heap c.in-Ok.place) (sym (c.self.view_is ∙ c.expect_entry.ensures)) (change-there c.args.self.now c.in_ok-session.session.now c.args.row.now.key c.in-Ok.place c.in-Ok.ensures)

pub invariant_of-self : goal.invariant_of-self
invariant_of-self c =
    let e = c.open_mut-writer.result.now in
    let r = c.update_on_page in
    let tries = tries-update c.self.inside.heap r.new.self e.own r.new.own c.in-Ok.place (worded c.args.row.now) 0 r.result (r.ensures 0) in
    keeps-tried c.self.inside.sessions c.self.inside.heap r.new.self c.args.s e r.new.own (updates (worded c.args.row.now)) c.in-Ok.place 0 (outcome_of r.result) c.open_mut-writer.ensures.value tries (r.ensures 0).window c.self.invariant

pub returns-in-Some : goal.returns-in-Some
returns-in-Some c =
    let before : State = record { settings = c.self.inside.settings; heap = c.self.inside.heap; sessions = c.self.inside.sessions } in
    let here = c.self.view_is ∙ c.expect_entry.ensures in
    let row = worded c.args.row.now in
    let fits : FitsRow row = search rules in
    let M : State → Type 0 = λ st. MayTryAt st c.args.s (updates row) c.in-Ok.place in
    let may = subst M (sym here) (c.in_ok-session.session.now, c.in_ok-session.ensures, c.in-Ok.ensures) in
    let e = c.open_mut-writer.result.now in
    let r = c.update_on_page in
    let says = r.ensures (horizon_of before) in
    let tries = tries-update before.heap r.new.self e.own r.new.own c.in-Ok.place row (horizon_of before) r.result says in
    let answers = answers-tried before r.new.self c.args.s e r.new.own (updates row) c.in-Ok.place (outcome_of r.result) (reply_to c.write_answer.result) may fits c.open_mut-writer.ensures.value tries says.window c.write_answer.ensures in
    let P : State → Type 0 = λ st. AnswersStep st (step.Update c.args.s row) (reply_to c.write_answer.result) (with_write before r.new.self c.args.s (with_own e r.new.own)) in
    subst P here answers

pub returns-in-Err : goal.returns-in-Err
returns-in-Err c =
    let st = c.args.self.now in
    let e = c.in_ok-session.session.now in
    let row = worded c.args.row.now in
    let fits : FitsRow row = search rules in
    let refused = MatchResult-at_err (λ (found : Tid × Option PositionHint). MayChangeKey st e row.key found.0) (λ refusal. RefusesChangeOfKey st e row.key refusal) c.in-Err.refusal c.in-Err.is c.check_change.ensures in
    let P : State → Reply → Type 0 = λ new reply. AnswersStep st (step.Update c.args.s row) reply new in
    subst (λ (new : State). P new (reply_to c.refuse.result)) (sym c.refuse.ensures.state)
    (subst (λ (reply : Reply). P (refused_state st c.args.s c.in-Err.refusal) reply) (ap reply_to (sym c.refuse.ensures.answer))
    (answers-hindered_update st c.args.s e row c.in-Err.refusal fits c.in_ok-session.ensures refused))
