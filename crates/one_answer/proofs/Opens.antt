-- What is left open may be answered.
use Rattle.std.proofs.Common.{◌≡◌, ℕ, Some, sym, ◌∙◌, subst}
use Rattle.std.proofs.lemmas.Option.{same_Some}
use Rattle.history.specs.World.{World, OpenSession, by_statement, LacksIndex}
use Rattle.calls.specs.declared.step.Step.{Step}
use Rattle.calls.specs.declared.step.Step.TheVariants as step
use Rattle.calls.specs.declared.reply.Reply.TheVariants as reply
use Rattle.calls.specs.declared.reply.Refusal.{Refusal}
use Rattle.calls.specs.declared.reply.Refusal.TheVariants as refusal
use Rattle.refinement.specs.Allowed.{AllowsReply}
use Rattle.one_answer.specs.OneAnswer.{IsLeftOpen, IsOpenByStatement, MakesNone}

by_it : (w : World) (s : ℕ) (m : OpenSession) → w.session s ≡ Some m → IsOpenByStatement w s → m.isolation ≡ by_statement
by_it w s m there by = subst (λ (m : OpenSession). m.isolation ≡ by_statement) (same_Some by.0 m (sym by.1 ∙ there)) by.2

pub where_done : (w : World) (step : Step) (r : Refusal) → MakesNone step → AllowsReply w step reply.Done → IsLeftOpen w step (reply.Refused r) → AllowsReply w step (reply.Refused r)
where_done w (step.Begin s) refusal.NoMemory none is open_ = is
where_done w (step.Insert s row) refusal.NeedsFreeze none is open_ = is
where_done w (step.Insert s row) refusal.NoRoom none is open_ = is
where_done w (step.Insert s row) refusal.NoMemory none is open_ = is
where_done w (step.Update s row) refusal.NeedsFreeze none is open_ = is
where_done w (step.Update s row) refusal.NoRoom none is open_ = is
where_done w (step.Update s row) refusal.NoMemory none is open_ = is
where_done w (step.Delete s k) refusal.NeedsFreeze none is open_ = is
where_done w (step.Delete s k) refusal.NoMemory none is open_ = is
where_done w (step.Savepoint s) refusal.NoMemory none is open_ = is
where_done w (step.OpenIndex s index low high) refusal.NoMemory none is open_ = (is.0, is.1, is.2, is.3, by_it w s is.0 is.1.ready.there open_)
where_done w (step.OpenHeap s) refusal.NoMemory none is open_ = (is.0, is.1, by_it w s is.0 is.1.ready.there open_)
where_done w (step.OpenKeys s low high) refusal.NoMemory none is open_ = (is.0, is.1, is.2, by_it w s is.0 is.1.ready.there open_)
where_done w (step.Next s n) refusal.NoMemory none is open_ = absurd is
where_done w (step.TakePage s p) refusal.NoSuchPage none is open_ = absurd is
where_done w (step.TakePage s p) refusal.NoMemory none is open_ = absurd is
where_done w (step.Prune p) refusal.NoSuchPage none is open_ = tt
where_done w (step.ApplyPlan p plan) refusal.NoSuchPage none is open_ = tt
where_done w (step.ApplyPlan p plan) refusal.Stale none is open_ = tt
where_done w (step.CreateIndex c) refusal.NoMemory none is open_ = absurd none
where_done w _ _ none is open_ = absurd open_

pub where_lacking : (w : World) (c : ℕ) (r : Refusal) → LacksIndex w c → AllowsReply w (step.CreateIndex c) reply.Done → IsLeftOpen w (step.CreateIndex c) (reply.Refused r)
    → AllowsReply w (step.CreateIndex c) (reply.Refused r)
where_lacking w c refusal.NoMemory lacks is open_ = (lacks, is.1 lacks.1, is.0.1 lacks.1)
where_lacking w c _ lacks is open_ = absurd open_
