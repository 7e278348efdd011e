use Rattle.std.proofs.Common.{◌∙◌, None, set, ap, subst}
use Rattle.session_steps.specs.State.{State}
use Rattle.session_steps.specs.NextRows.{AnswersNextRows}
use Rattle.session_core.specs.State.{WaitingView}
use Rattle.session_core.proofs.NextLemmas.{engine-next_rows}
use Rattle.session_core.proofs.engine.Engine.next_rows.Goals as goal

pub returns : goal.returns
returns c =
    let core = ap (λ (e : WaitingView). e.engine.core) c.self.view_is ∙ c.disturb.ensures.core in
    let vacuum = ap (λ (e : WaitingView). e.engine.vacuum) c.self.view_is ∙ c.disturb.ensures.vacuum in
    let does = subst (λ (st : State). AnswersNextRows st c.args.s c.args.places.now c.next_rows.result c.next_rows.new.places c.next_rows.new.self) core c.next_rows.ensures in
    let waits = c.end.ensures ∙ ap (λ (e : WaitingView). set e.waits c.args.s None) c.self.view_is ∙ ap (λ xs. set xs c.args.s None) c.disturb.ensures.waits in
    engine-next_rows c.args.self.now (record { engine = record { core = c.next_rows.new.self; vacuum = c.self.inside.vacuum }; waits = c.end.new.self }) c.args.s c.args.places.now c.next_rows.result c.next_rows.new.places does vacuum waits
