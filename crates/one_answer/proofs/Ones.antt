-- Each step has one answer, but for what is left open.
use Rattle.std.proofs.Common.{List, Bool, refl, inl, inr}
use Rattle.history.specs.World.{World, beginning}
use Rattle.history.specs.Laws.{HasFew, HeldOnce}
use Rattle.history.specs.Events.{StepsReach, stays}
use Rattle.history.proofs.RunLemmas.{Lawful-run, Lawful-beginning}
use Rattle.history.proofs.FewLemmas.{few-run}
use Rattle.calls.specs.declared.step.Step.{Step}
use Rattle.calls.specs.declared.step.Step.TheVariants as step
use Rattle.calls.specs.declared.reply.Reply.{Reply}
use Rattle.refinement.specs.Allowed.{AllowsReply, IsRun, after}
use Rattle.refinement.proofs.Runs.{leads}
use Rattle.one_answer.specs.OneAnswer.{TellTheSame, IsDue, IsLeftOpen, HasOneAnswer}
use Rattle.one_answer.proofs.Tests.{Agree, Agrees, not_due}
use Rattle.one_answer.proofs.Answers.{agree-insert, agree-update, agree-delete}
use Rattle.one_answer.proofs.Others.{agree-begin, agree-begin_read_committed, agree-get, agree-savepoint, agree-rollback_to, agree-release, agree-commit, agree-abort, agree-open_index, agree-open_heap, agree-open_keys, agree-close, agree-take_page, agree-prune, agree-vacuum_step, agree-vacuum_cancel, agree-create_index}
use Rattle.one_answer.proofs.Handing.{agree-next, agree-apply_plan, agree-vacuum_begin}

agree : (w : World) (step : Step) → HasFew w → HeldOnce w → Agrees w step (AllowsReply w step)
agree w (step.Begin s) few once = agree-begin w s few
agree w (step.BeginReadCommitted s) few once = agree-begin_read_committed w s few
agree w (step.Get s k) few once = agree-get w s k few
agree w (step.Insert s row) few once = agree-insert w s row few once
agree w (step.Update s row) few once = agree-update w s row few once
agree w (step.Delete s k) few once = agree-delete w s k few once
agree w (step.Savepoint s) few once = agree-savepoint w s few
agree w (step.RollbackTo s) few once = agree-rollback_to w s few
agree w (step.Release s) few once = agree-release w s few
agree w (step.Commit s) few once = agree-commit w s few
agree w (step.Abort s) few once = agree-abort w s few
agree w (step.OpenIndex s index low high) few once = agree-open_index w s index low high few
agree w (step.OpenHeap s) few once = agree-open_heap w s few
agree w (step.OpenKeys s low high) few once = agree-open_keys w s low high few
agree w (step.Next s n) few once = agree-next w s n few
agree w (step.Close s) few once = agree-close w s few
agree w (step.TakePage s p) few once = agree-take_page w s p few
agree w (step.Prune p) few once = agree-prune w p
agree w (step.ApplyPlan p plan) few once = agree-apply_plan w p plan
agree w (step.VacuumBegin mode) few once = agree-vacuum_begin w mode
agree w step.VacuumStep few once = agree-vacuum_step w
agree w step.VacuumCancel few once = agree-vacuum_cancel w
agree w (step.CreateIndex c) few once = agree-create_index w c

same_or_open : (w : World) (step : Step) (a b : Reply) → Agree w step a b → ¬ IsLeftOpen w step a → ¬ IsLeftOpen w step b → TellTheSame a b
same_or_open w step a b (inl same) told told' = same
same_or_open w step a b (inr open_) told told' = absurd (elim open_.2 [ inl a ↦ told a | inr b ↦ told' b ])

due_alone : (w : World) (step : Step) (a b : Reply) → Agree w step a b → IsDue a → TellTheSame a b
due_alone w step a b (inl same) due = same
due_alone w step a b (inr open_) due = absurd (not_due a open_.0 due)

pub one_answer : (w : World) (step : Step) → HasFew w → HeldOnce w → HasOneAnswer w step
one_answer w step few once = record {
  one = λ a b x y told told'. same_or_open w step a b (agree w step few once a b x y) told told';
  due = λ a b x y due. due_alone w step a b (agree w step few once a b x y) due;
}

-- so it is of each world that is reached
pub reached_has_one : (columns : List Bool) (w : World) → StepsReach (beginning columns) w → (step : Step) → HasOneAnswer w step
reached_has_one columns w reach step = one_answer w step (few-run reach (λ s far. refl)) (Lawful-run reach (Lawful-beginning columns)).once

pub have_one_answer : (columns : List Bool) (steps : List Step) (replies : List Reply) → IsRun (beginning columns) steps replies → (step : Step) → HasOneAnswer (after (beginning columns) steps replies) step
have_one_answer columns steps replies run step = reached_has_one columns (after (beginning columns) steps replies) (leads (beginning columns) (beginning columns) steps replies stays run) step
