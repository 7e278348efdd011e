use Rattle.std.proofs.Common.{rules, Result, Some, refl, sym, ap, ◌∙◌, subst}
use Rattle.calls.specs.declared.step.Step.TheVariants as step
use Rattle.calls.specs.declared.reply.Reply.{Reply}
use Rattle.calls.specs.declared.reply.Reply.TheVariants as reply
use Rattle.calls.specs.declared.reply.Refusal.{Refusal}
use Rattle.calls.specs.declared.reply.Refusal.TheVariants as refusal
use Rattle.snapshot.specs.declared.own.SaveFault.{SaveFault}
use Rattle.snapshot.specs.Saving.{CannotSave}
use Rattle.sessions.specs.declared.session.Session.{Session}
use Rattle.session_steps.specs.State.{State, session_at, put_session}
use Rattle.session_steps.specs.declared.outcome.Ack.{Ack}
use Rattle.session_steps.specs.Replies.{reply_to}
use Rattle.session_steps.proofs.Returning.{SetsSavepoint}
use Rattle.session_steps.specs.Exact.{AnswersStep}
use Rattle.session_steps.proofs.Outcomes.{handed-on}
use Rattle.session_steps.proofs.StateLemmas.{keeps-ids}
use Rattle.session_steps.proofs.Savepoints.{Follows-too_deep, Follows-savepoint_no_memory, Follows-barred_savepoint}
use Rattle.session_steps.proofs.Noting.{unnoted, acts-there, Follows-noted}
use Rattle.session_steps.proofs.engine.SessionEngine.savepoint.Goals as goal
use Rattle.session_steps.proofs.engine.SessionEngine.savepoint.Goals.{in-Ok, in-Err-TooDeep, in-Err-NoMemory}

pub returns-in_err-free : goal.returns-in_err-free
returns-in_err-free c = record {
  follows = rw (handed-on c.from_residual.result c.from_residual.ensures.1) (Follows-barred_savepoint c.args.self.now c.args.s c.in_err-free.field-0.0 c.in_err-free.ensures);
  exact = search rules;
}

pub invariant_of-self : goal.invariant_of-self
invariant_of-self c = keeps-ids c.self.inside.sessions c.self.inside.heap.statuses c.args.s c.open_mut.result.now (record c.open_mut.result.now { own = c.save.new.self }) c.open_mut.ensures.value c.save.ensures.ids c.self.invariant

pub returns : goal.returns
returns c =
    let e = c.open_mut.result.now in
    let now : Session = record e { own = c.save.new.self } in
    let there = ap (λ (st : State). session_at st c.args.s) (sym c.self.view_is) ∙ c.open_mut.ensures.value in
    let acts = acts-there c.args.self.now c.args.s c.in_ok-free.field-0.now e c.in_ok-free.ensures there in
    let before : State = record { settings = c.self.inside.settings; heap = c.self.inside.heap; sessions = c.self.inside.sessions } in
    let after = put_session before c.args.s (Some now) in
    let P : SaveFault → Type 0 = λ fault. CannotSave e.own fault in
    let D : Reply → State → Type 0 = λ reply st. AnswersStep c.args.self.now (step.Savepoint c.args.s) reply st in
    let R : Result Ack Refusal → Type 0 = λ r. D (reply_to r) after in
    elim c.match-save.branch [
      | in-Ok w ↦ (let is = ap (λ (st : State). put_session st c.args.s (Some now)) c.self.view_is in
          let sets : SetsSavepoint e.own c.save.new.self = record { ids = c.save.ensures.ids; saved = w.in-Ok.ensures.saved } in
          subst R (sym w.result-is) (record {
            follows = Follows-noted c.args.self.now after c.args.s c.in_ok-free.field-0.now e c.save.new.self c.in_ok-free.ensures there w.in-Ok.ensures.room is sets;
            exact = record { session = e; at = there; own = c.save.new.self; is = is; ids = sets.ids; saved = sets.saved };
          }))
      | in-Err-TooDeep w ↦ (let same = unnoted before c.args.self.now c.args.s e c.save.new.self c.self.view_is c.open_mut.ensures.value w.in-Err-TooDeep.ensures.refused in
          let full = subst P w.in-Err-TooDeep.field-0-is w.in-Err-TooDeep.ensures.fault in
          subst R (sym w.result-is) (subst (D (reply.Refused refusal.TooDeep)) (sym same) (record {
            follows = Follows-too_deep c.args.self.now c.args.s e acts.1 acts.2 acts.3 full;
            exact = refl;
          })))
      | in-Err-NoMemory w ↦ (let same = unnoted before c.args.self.now c.args.s e c.save.new.self c.self.view_is c.open_mut.ensures.value w.in-Err-NoMemory.ensures.refused in
          let cannot = subst P w.in-Err-NoMemory.field-0-is w.in-Err-NoMemory.ensures.fault in
          subst R (sym w.result-is) (subst (D (reply.Refused refusal.NoMemory)) (sym same) (record {
            follows = Follows-savepoint_no_memory c.args.self.now c.args.s e acts.1 acts.2 acts.3 cannot.1;
            exact = ((e, there, cannot.0, cannot.2), refl);
          })))
    ]
