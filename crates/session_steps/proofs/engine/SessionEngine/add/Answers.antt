use Rattle.std.proofs.Common.{◌∙◌, sym, subst}
use Rattle.std.proofs.lemmas.Option.{none-some}
use Rattle.calls.specs.Writes.{inserts}
use Rattle.calls.specs.declared.step.Step.TheVariants as step
use Rattle.session_steps.specs.State.{State, horizon_of}
use Rattle.session_steps.specs.Writes.{outcome_of, worded}
use Rattle.session_steps.specs.Replies.{reply_to}
use Rattle.session_steps.specs.Exact.{AnswersStep}
use Rattle.session_steps.proofs.StateLemmas.{with_own}
use Rattle.session_steps.proofs.Giving.{with_write}
use Rattle.session_steps.proofs.Trying.{MayTryAt, no_place, newest-given, tries-insert, keeps-tried, answers-tried}
use Rattle.session_steps.proofs.engine.SessionEngine.add.Goals as goal

pub open_mut-session-requires : goal.open_mut-session-requires
open_mut-session-requires c =
    let M : State → Type 0 = λ st. MayTryAt st c.args.s (inserts (worded c.args.row.now)) no_place in
    let may = subst M (sym c.self.view_is) c.requires.may in
    λ none. none-some may.0 (sym none ∙ may.1.1)

pub insert-requires : goal.insert-requires
insert-requires c =
    let e = c.open_mut-session.result.now in
    record { newest = newest-given c.self.inside.heap.statuses e.own.ids e.own.saved c.fact_prefixes.ensures.prefixes (λ x mine. c.self.invariant.own.active c.args.s e x c.open_mut-session.ensures.value mine) }

pub invariant_of-self : goal.invariant_of-self
invariant_of-self c =
    let e = c.open_mut-session.result.now in
    let r = c.insert in
    let write = inserts (worded c.args.row.now) in
    let tries = tries-insert c.self.inside.heap r.new.self e.own r.new.own (worded c.args.row.now) 0 r.result r.ensures.ok r.ensures.fault r.ensures.err r.ensures.own in
    keeps-tried c.self.inside.sessions c.self.inside.heap r.new.self c.args.s e r.new.own write no_place 0 (outcome_of r.result) c.open_mut-session.ensures.value tries r.ensures.window c.self.invariant

pub returns : goal.returns
returns c =
    let before : State = record { settings = c.self.inside.settings; heap = c.self.inside.heap; sessions = c.self.inside.sessions } in
    let write = inserts (worded c.args.row.now) in
    let M : State → Type 0 = λ st. MayTryAt st c.args.s write no_place in
    let may = subst M (sym c.self.view_is) c.requires.may in
    let e = c.open_mut-session.result.now in
    let r = c.insert in
    let tries = tries-insert before.heap r.new.self e.own r.new.own (worded c.args.row.now) (horizon_of before) r.result r.ensures.ok r.ensures.fault r.ensures.err r.ensures.own in
    let answers = answers-tried before r.new.self c.args.s e r.new.own write no_place (outcome_of r.result) (reply_to c.write_answer.result) may c.requires.fits c.open_mut-session.ensures.value tries r.ensures.window c.write_answer.ensures in
    let P : State → Type 0 = λ st. AnswersStep st (step.Insert c.args.s (worded c.args.row.now)) (reply_to c.write_answer.result) (with_write before r.new.self c.args.s (with_own e r.new.own)) in
    subst P c.self.view_is answers
