-- Whether an answer is allowed, by the one that is due.
use Rattle.std.proofs.Common.{◌≡◌, [], ◌∷◌, true, false, Bool, sym, ◌∙◌, subst, inl, inr}
use Rattle.std.specs.Prelude.{◌↔◌, IsTrue, Result, Ok, Err, OnOk, OnErr}
use Rattle.refinement.proofs.Runs.{leads}
use Rattle.std.proofs.lemmas.Bool.{cases_Bool}
use Rattle.history.specs.World.{World, beginning}
use Rattle.calls.specs.declared.step.Step.{Step}
use Rattle.calls.specs.declared.step.Step.TheVariants as step
use Rattle.calls.specs.declared.reply.Reply.{Reply}
use Rattle.calls.specs.declared.reply.Reply.TheVariants as reply
use Rattle.refinement.specs.Allowed.{AllowsReply, after_reply}
use Rattle.one_answer.specs.OneAnswer.{TellTheSame, IsDue, IsLeftOpen, MakesNone}
use Rattle.one_answer.proofs.Ones.{reached_has_one}
use Rattle.one_answer.proofs.Opens.{where_done}
use Rattle.judge.specs.Rulings.{IsFreelyRefused, IsReached, IsFree}

pub same_as_due : (w : World) (step : Step) (a b : Reply) → IsDue a → TellTheSame a b → AllowsReply w step a → AllowsReply w step b
same_as_due w step (reply.Rows r) b due same is = absurd due
same_as_due w step (reply.Keys k) b due same is = absurd due
same_as_due w step a b due same is = subst (λ (a : Reply). AllowsReply w step a) same is

pub by_due : (w : World) (step : Step) (due a : Reply) (b : Bool) → IsReached w → AllowsReply w step due × IsDue due → (IsTrue b ↔ TellTheSame due a) → (IsTrue b ↔ AllowsReply w step a)
by_due w step due a b reached is says = (
  λ yes_. same_as_due w step due a is.1 (says.0 yes_) is.0,
  λ allows. says.1 ((reached_has_one reached.0 w reached.1 step).due due a is.0 allows is.1),
)

pub done_is_told : (w : World) (step : Step) → IsLeftOpen w step reply.Done → ⊥
done_is_told w step.VacuumStep open_ = open_
done_is_told w _ open_ = open_

-- what is left open at these steps is a refusal
pub free_of : (w : World) (step : Step) (a : Reply) → IsFreelyRefused step → IsLeftOpen w step a → IsFree w step a
free_of w step (reply.Refused r) judged open_ = open_
free_of w (step.Begin s) _ judged open_ = absurd open_
free_of w (step.BeginReadCommitted s) _ judged open_ = absurd open_
free_of w (step.Get s k) _ judged open_ = absurd open_
free_of w (step.Insert s row) _ judged open_ = absurd open_
free_of w (step.Update s row) _ judged open_ = absurd open_
free_of w (step.Delete s k) _ judged open_ = absurd open_
free_of w (step.Savepoint s) _ judged open_ = absurd open_
free_of w (step.RollbackTo s) _ judged open_ = absurd open_
free_of w (step.Release s) _ judged open_ = absurd open_
free_of w (step.Commit s) _ judged open_ = absurd open_
free_of w (step.Abort s) _ judged open_ = absurd open_
free_of w (step.OpenIndex s index low high) _ judged open_ = absurd open_
free_of w (step.OpenHeap s) _ judged open_ = absurd open_
free_of w (step.OpenKeys s low high) _ judged open_ = absurd open_
free_of w (step.Close s) _ judged open_ = absurd open_
free_of w (step.Prune p) _ judged open_ = absurd open_
free_of w (step.ApplyPlan p plan) _ judged open_ = absurd open_
free_of w (step.VacuumBegin mode) _ judged open_ = absurd open_
free_of w step.VacuumCancel _ judged open_ = absurd open_
free_of w _ _ judged open_ = absurd judged

makes_none : (step : Step) → IsFreelyRefused step → MakesNone step
makes_none (step.CreateIndex c) judged = judged
makes_none _ judged = tt

pub free_allowed : (w : World) (step : Step) (a : Reply) → IsFreelyRefused step → AllowsReply w step reply.Done → IsFree w step a → AllowsReply w step a
free_allowed w step reply.Done judged done free = done
free_allowed w step (reply.Refused r) judged done free = where_done w step r (makes_none step judged) done free
free_allowed w step _ judged done free = absurd free

pub by_free : (w : World) (step : Step) (a : Reply) (b : Bool) → IsReached w → IsFreelyRefused step → AllowsReply w step reply.Done → (IsTrue b ↔ IsFree w step a) → (IsTrue b ↔ AllowsReply w step a)
by_free w step a b reached judged done says = (λ yes_. free_allowed w step a judged done (says.0 yes_), back)
  where
    back : AllowsReply w step a → IsTrue b
    back allows = elim (cases_Bool b) [
      | inl yes_ ↦ yes_
      | inr isnt ↦ (
          let never : IsFree w step a → ⊥ = λ free. (let e : true ≡ false = sym (says.1 free) ∙ isnt in absurd (cc)) in
          let same : TellTheSame reply.Done a = (reached_has_one reached.0 w reached.1 step).one reply.Done a done allows (done_is_told w step) (λ open_. never (free_of w step a judged open_)) in
          absurd (never (subst (λ (a : Reply). IsFree w step a) same tt)))
    ]

-- The judge's world is one that a run leads to.

reached_by : (w : World) (step : Step) (a : Reply) → IsReached w → AllowsReply w step a → IsReached (after_reply w step a)
reached_by w step a reached allows = (reached.0, leads (beginning reached.0) w (step ∷ []) (a ∷ []) reached.1 (allows, tt))

pub reached_after : {A E : Type 0} (r : Result A E) (w new : World) (step : Step) (a : Reply) → IsReached w → AllowsReply w step a → OnOk r (new ≡ after_reply w step a) → OnErr r (new ≡ w) → IsReached new
reached_after (Ok x) w new step a reached allows goes_on stays = subst IsReached (sym goes_on) (reached_by w step a reached allows)
reached_after (Err e) w new step a reached allows goes_on stays = subst IsReached (sym stays) reached
