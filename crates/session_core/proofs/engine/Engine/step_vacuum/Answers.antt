use Rattle.std.proofs.Common.{Some, None, sym, ap, ◌∙◌, subst}
use Rattle.calls.specs.declared.step.Step.TheVariants as step
use Rattle.calls.specs.declared.reply.Reply.{Reply}
use Rattle.calls.specs.declared.reply.Reply.TheVariants as reply
use Rattle.session_steps.specs.Vacuums.{VacuumWorks}
use Rattle.session_core.specs.State.{WaitingView}
use Rattle.vacuum_engine.specs.Exact.{EngineExact}
use Rattle.session_steps.proofs.Forgetting.{steps-table}
use Rattle.session_core.proofs.Stepping.{ended}
use Rattle.session_core.proofs.Caching.{same-keeps}
use Rattle.session_core.proofs.engine.Engine.step_vacuum.Goals as goal

pub returns-in-None-clause-exact : goal.returns-in-None-clause-exact
returns-in-None-clause-exact c =
    let old = c.args.self.now.engine in
    let running = ap (λ (e : WaitingView). e.engine.vacuum) (sym c.self.view_is) ∙ c.in-Some.is in
    let ends : EngineExact old step.VacuumStep (reply.Ended c.end_vacuum.result) c.end_vacuum.new.self.engine = (
      ended old c.end_vacuum.new.self.engine c.in-Some.vacuum c.vacuum_step.new.self running
          (subst (λ (e : WaitingView). VacuumWorks e.engine.core c.vacuum_step.new.self c.in-Some.vacuum None None) c.self.view_is c.in-None.ensures)
          c.end_vacuum.ensures.none c.forgets_before-cutoff.result c.forgets_before-cutoff.ensures c.end_vacuum.ensures.core,
      c.end_vacuum.ensures.first,
    ) in
    subst (λ (r : Reply). EngineExact old step.VacuumStep r c.end_vacuum.new.self.engine) (sym c.put_end.ensures) ends

pub invariant_of-self-in-Some-vacuum_step : goal.invariant_of-self-in-Some-vacuum_step
invariant_of-self-in-Some-vacuum_step c =
    same-keeps c.self.inside.cache c.self.inside.core c.vacuum_step.new.self (steps-table _ _ _ _ _ _ c.in-Some-vacuum_step.ensures.steps) c.self.invariant

pub invariant_of-self-in-None : goal.invariant_of-self-in-None
invariant_of-self-in-None c = same-keeps c.self.inside.cache c.self.inside.core c.vacuum_step.new.self (steps-table _ _ _ _ _ _ c.in-None.ensures.steps) c.self.invariant
