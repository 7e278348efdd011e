use Rattle.std.proofs.Common.{rules, ◌≡◌, ℕ, Result, refl, sym, ap, ◌∙◌, subst}
use Rattle.heap_write.specs.Heap.{HeapView}
use Rattle.heap_write.specs.Writes.{Prunes}
use Rattle.calls.specs.declared.step.Step.TheVariants as step
use Rattle.calls.specs.declared.reply.Reply.TheVariants as reply
use Rattle.calls.specs.declared.reply.Refusal.TheVariants as refusal
use Rattle.session_steps.specs.State.{State, horizon_of}
use Rattle.calls.specs.declared.reply.Refusal.{Refusal}
use Rattle.session_steps.specs.declared.outcome.Ack.{Ack}
use Rattle.session_steps.specs.Replies.{reply_to}
use Rattle.session_steps.specs.Agrees.{Follows}
use Rattle.session_steps.proofs.Cleaned.{Follows-prune, Follows-no_such_page}
use Rattle.session_steps.proofs.engine.SessionEngine.prune.Goals as goal
use Rattle.session_steps.proofs.engine.SessionEngine.prune.Goals.{in-Ok, in-Err-NoSuchPage}

pub returns : goal.returns
returns c = record {
  follows = (
      let before : State = record { settings = c.self.inside.settings; heap = c.self.inside.heap; sessions = c.self.inside.sessions } in
      let after : State = record before { heap = c.prune.new.self } in
      let horizon : c.horizon-horizon.result.0 ≡ horizon_of before = c.horizon-horizon.ensures ∙ ap horizon_of (sym c.self.view_is) in
      let P : State → Type 0 = λ st. Follows st (step.Prune c.args.page) (reply_to c.match-prune.result) after in
      let R : Result Ack Refusal → Type 0 = λ r. Follows before (step.Prune c.args.page) (reply_to r) after in
      let H : ℕ → Type 0 = λ x. Prunes before.heap after.heap c.args.page x in
      subst P c.self.view_is (elim c.match-prune.branch [
        | in-Ok w ↦ subst R (sym w.result-is) (Follows-prune before after c.args.page (record { is = refl; heap = subst H horizon w.in-Ok.ensures.ok }))
        | in-Err-NoSuchPage w ↦ subst R (sym w.result-is)
            (let G : HeapView → Type 0 = λ h. Follows before (step.Prune c.args.page) (reply.Refused refusal.NoSuchPage) (record before { heap = h }) in subst G (sym w.in-Err-NoSuchPage.ensures.err) (Follows-no_such_page before c.args.page))
      ]));
  exact = search rules;
}
