use Rattle.std.proofs.Common.{◌≡◌, ◌∙◌, false, rules, refl, ap, sym, subst}
use Rattle.std.specs.Option.{option_map}
use Rattle.calls.specs.declared.step.Step.{Step}
use Rattle.calls.specs.declared.step.Step.TheVariants as step
use Rattle.vacuum_passes.specs.View.{disturbed}
use Rattle.session_steps.specs.Vacuums.{IsSetUp}
use Rattle.session_steps.specs.State.{State, is_answered_above}
use Rattle.session_steps.specs.Keeps.{OwnIdsKeep}
use Rattle.session_steps.specs.Exact.{AnswersStep}
use Rattle.vacuum_engine.specs.State.{EngineView}
use Rattle.session_core.specs.State.{WaitingView}
use Rattle.vacuum_engine.specs.Clauses.{EngineFollows}
use Rattle.vacuum_engine.proofs.Vacuums.{above-follows}
use Rattle.vacuum_engine.proofs.Others.{others-follow}
use Rattle.session_core.proofs.Stepping.{beside-exact}
use Rattle.session_core.proofs.Caching.{answer-keeps}
use Rattle.session_core.proofs.engine.Engine.step_below.Goals as goal

pub returns-in-VacuumBegin-clause-follows : goal.returns-in-VacuumBegin-clause-follows
returns-in-VacuumBegin-clause-follows c = subst (λ (step : Step). EngineFollows c.args.self.now.engine step c.begin_vacuum.new.reply c.begin_vacuum.new.self.engine) (sym c.in-VacuumBegin.is)
    (above-follows c.args.self.now.engine c.begin_vacuum.new.self.engine (step.VacuumBegin c.in-VacuumBegin.mode) c.begin_vacuum.new.reply refl (subst (λ (e : WaitingView). IsSetUp e.engine.core) c.self.view_is c.fact_set_up.ensures.set_up) c.begin_vacuum.ensures.exact)

pub returns-in-VacuumStep-clause-follows : goal.returns-in-VacuumStep-clause-follows
returns-in-VacuumStep-clause-follows c = subst (λ (step : Step). EngineFollows c.args.self.now.engine step c.step_vacuum.new.reply c.step_vacuum.new.self.engine) (sym c.in-VacuumStep.is)
    (above-follows c.args.self.now.engine c.step_vacuum.new.self.engine step.VacuumStep c.step_vacuum.new.reply refl (subst (λ (e : WaitingView). IsSetUp e.engine.core) c.self.view_is c.fact_set_up.ensures.set_up) c.step_vacuum.ensures.exact)

pub returns-in-VacuumCancel-clause-follows : goal.returns-in-VacuumCancel-clause-follows
returns-in-VacuumCancel-clause-follows c = subst (λ (step : Step). EngineFollows c.args.self.now.engine step c.cancel_vacuum.new.reply c.cancel_vacuum.new.self.engine) (sym c.in-VacuumCancel.is)
    (above-follows c.args.self.now.engine c.cancel_vacuum.new.self.engine step.VacuumCancel c.cancel_vacuum.new.reply refl (subst (λ (e : WaitingView). IsSetUp e.engine.core) c.self.view_is c.fact_set_up.ensures.set_up) c.cancel_vacuum.ensures.exact)

pub returns-in-CreateIndex-clause-follows : goal.returns-in-CreateIndex-clause-follows
returns-in-CreateIndex-clause-follows c = subst (λ (step : Step). EngineFollows c.args.self.now.engine step c.create_index.new.reply c.create_index.new.self.engine) (sym c.in-CreateIndex.is)
    (above-follows c.args.self.now.engine c.create_index.new.self.engine (step.CreateIndex c.in-CreateIndex.column) c.create_index.new.reply refl (subst (λ (e : WaitingView). IsSetUp e.engine.core) c.self.view_is c.fact_set_up.ensures.set_up) c.create_index.ensures.exact)

pub returns-in_default : goal.returns-in_default
returns-in_default c =
    let step = c.args.step in
    let other : is_answered_above step ≡ false = search rules in
    let core = ap (λ (e : WaitingView). e.engine.core) c.self-in_default.view_is ∙ c.disturb.ensures.core in
    let vacuum = ap (λ (e : WaitingView). e.engine.vacuum) c.self-in_default.view_is ∙ (c.disturb.ensures.vacuum ∙ ap (λ b. option_map (disturbed b) c.args.self.now.engine.vacuum) c.is_session.ensures) in
    let does = subst (λ (st : State). AnswersStep st step c.step_into.new.reply c.step_into.new.self) core (c.step_into.ensures.answers other) in
    let new : EngineView = record { core = c.step_into.new.self; vacuum = c.self-in_default.inside.vacuum } in
    record {
      follows = others-follow c.args.self.now.engine new step c.step_into.new.reply other does.follows (record { core = does.exact; vacuum = vacuum });
      exact = beside-exact c.args.self.now.engine new step c.step_into.new.reply other (record { core = does.exact; vacuum = vacuum });
      waits = ap (λ (e : WaitingView). e.waits) c.self-in_default.view_is ∙ c.disturb.ensures.waits;
    }

pub invariant_of-self : goal.invariant_of-self
invariant_of-self c =
    let other : is_answered_above c.args.step ≡ false = search rules in
    let core : WaitingView → State = λ e. e.engine.core in
    let same = ap core c.self.view_is ∙ sym (ap core c.self-in_default.view_is ∙ c.disturb.ensures.core) in
    let own = subst (λ (st : State). OwnIdsKeep st.sessions st.heap.statuses) same c.fact_set_up.ensures.own_ids in
    answer-keeps c.self-in_default.inside.cache c.self-in_default.inside.core c.step_into.new.self c.args.step c.step_into.new.reply own (c.step_into.ensures.answers other).exact
    c.self-in_default.invariant
