use Rattle.std.proofs.Common.{◌≡◌, ◌∙◌, true, false, sym, ap, subst}
use Rattle.session_steps.specs.State.{State}
use Rattle.session_steps.specs.Making.{HasOrMakes, RefusesIndexOn}
use Rattle.vacuum_engine.specs.State.{EngineView}
use Rattle.session_core.specs.State.{WaitingView}
use Rattle.session_core.proofs.Creating.{create-barred, create-refused, create-done}
use Rattle.session_core.proofs.engine.Engine.create_index.Goals as goal

pub returns-then-barred-clause-exact : goal.returns-then-barred-clause-exact
returns-then-barred-clause-exact c = create-barred c.args.self.now.engine c.disturb.new.self.engine c.args.column c.disturb.ensures.vacuum (c.vacuum_bars_index-barred.ensures.0 c.if-barred.true) c.disturb.ensures.core

pub returns-in-Err-clause-exact : goal.returns-in-Err-clause-exact
returns-in-Err-clause-exact c =
    let core = ap (λ (e : WaitingView). e.engine.core) c.self.view_is ∙ c.disturb.ensures.core in
    let vacuum = ap (λ (e : WaitingView). e.engine.vacuum) c.self.view_is ∙ c.disturb.ensures.vacuum in
    let new : EngineView = record { core = c.make_index.new.self; vacuum = c.self.inside.vacuum } in
    create-refused c.args.self.now.engine new c.args.column vacuum c.in-Err.refusal (λ both. let off : false ≡ true = sym c.if-barred.false ∙ c.vacuum_bars_index-barred.ensures.1 both in absurd cc)
    (subst (λ (st : State). RefusesIndexOn st c.args.column c.in-Err.refusal) core c.in-Err.ensures.0) (c.in-Err.ensures.1 ∙ core)

pub returns-clause-exact : goal.returns-clause-exact
returns-clause-exact c =
    let core = ap (λ (e : WaitingView). e.engine.core) c.self.view_is ∙ c.disturb.ensures.core in
    let vacuum = ap (λ (e : WaitingView). e.engine.vacuum) c.self.view_is ∙ c.disturb.ensures.vacuum in
    let new : EngineView = record { core = c.make_index.new.self; vacuum = c.self.inside.vacuum } in
    create-done c.args.self.now.engine new c.args.column vacuum (λ both. let off : false ≡ true = sym c.if-barred.false ∙ c.vacuum_bars_index-barred.ensures.1 both in absurd cc)
    (subst (λ (st : State). HasOrMakes st c.make_index.new.self c.args.column) core c.in_default.ensures)
