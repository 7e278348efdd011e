use Rattle.std.proofs.Common.{◌∙◌, sym, subst}
use Rattle.std.proofs.lemmas.Option.{none-some}
use Rattle.calls.specs.Writes.{deletes}
use Rattle.calls.specs.declared.step.Step.TheVariants as step
use Rattle.session_steps.specs.State.{State, horizon_of}
use Rattle.session_steps.specs.Writes.{outcome_of}
use Rattle.session_steps.specs.Replies.{reply_to}
use Rattle.session_steps.specs.Exact.{AnswersStep}
use Rattle.heap_write.specs.Refusals.{VersionIsThere}
use Rattle.session_steps.proofs.StateLemmas.{with_own}
use Rattle.session_steps.proofs.Giving.{with_write}
use Rattle.session_steps.proofs.Trying.{MayTryAt, newest-given, change-there, tries-delete, keeps-tried, answers-tried}
use Rattle.session_steps.proofs.engine.SessionEngine.take_away.Goals as goal

pub open_mut-session-requires : goal.open_mut-session-requires
open_mut-session-requires c =
    let M : State → Type 0 = λ st. MayTryAt st c.args.s (deletes c.args.key) c.args.place in
    let may = subst M (sym c.self.view_is) c.requires in
    λ none. none-some may.0 (sym none ∙ may.1.1)

pub delete-requires-clause-newest : goal.delete-requires-clause-newest
delete-requires-clause-newest c =
    let e = c.open_mut-session.result.now in
    newest-given c.self.inside.heap.statuses e.own.ids e.own.saved c.fact_prefixes.ensures.prefixes (λ x mine. c.self.invariant.own.active c.args.s e x c.open_mut-session.ensures.value mine)

pub delete-requires-clause-there : goal.delete-requires-clause-there
delete-requires-clause-there c =
    let may = c.requires in
    subst (λ (st : State). VersionIsThere st.heap c.args.place) (sym c.self.view_is) (change-there c.args.self.now may.0 c.args.key c.args.place may.2)

pub invariant_of-self : goal.invariant_of-self
invariant_of-self c =
    let e = c.open_mut-session.result.now in
    let r = c.delete in
    let tries = tries-delete c.self.inside.heap r.new.self e.own r.new.own c.args.place c.args.key 0 r.result r.ensures.ok r.ensures.fault r.ensures.own in
    keeps-tried c.self.inside.sessions c.self.inside.heap r.new.self c.args.s e r.new.own (deletes c.args.key) c.args.place 0 (outcome_of r.result) c.open_mut-session.ensures.value tries r.ensures.window c.self.invariant

pub returns : goal.returns
returns c =
    let before : State = record { settings = c.self.inside.settings; heap = c.self.inside.heap; sessions = c.self.inside.sessions } in
    let write = deletes c.args.key in
    let M : State → Type 0 = λ st. MayTryAt st c.args.s write c.args.place in
    let may = subst M (sym c.self.view_is) c.requires in
    let e = c.open_mut-session.result.now in
    let r = c.delete in
    let tries = tries-delete before.heap r.new.self e.own r.new.own c.args.place c.args.key (horizon_of before) r.result r.ensures.ok r.ensures.fault r.ensures.own in
    let answers = answers-tried before r.new.self c.args.s e r.new.own write c.args.place (outcome_of r.result) (reply_to c.write_answer.result) may tt c.open_mut-session.ensures.value tries r.ensures.window c.write_answer.ensures in
    let P : State → Type 0 = λ st. AnswersStep st (step.Delete c.args.s c.args.key) (reply_to c.write_answer.result) (with_write before r.new.self c.args.s (with_own e r.new.own)) in
    subst P c.self.view_is answers
