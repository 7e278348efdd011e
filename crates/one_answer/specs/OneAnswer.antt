-- What is allowed at a step is one answer, but for what the history leaves open.
use Rattle.std.specs.Prelude.{◌≡◌, ℕ, List, Bool, Some}
use Rattle.history.specs.World.{World, OpenSession, Cursor, by_heap, by_statement, beginning, LacksIndex}
use Rattle.calls.specs.declared.step.Step.{Step}
use Rattle.calls.specs.declared.step.Step.TheVariants as step
use Rattle.calls.specs.declared.reply.Reply.{Reply}
use Rattle.calls.specs.declared.reply.Reply.TheVariants as reply
use Rattle.calls.specs.declared.reply.Refusal.{Refusal}
use Rattle.calls.specs.declared.reply.Refusal.TheVariants as refusal
use Rattle.refinement.specs.Allowed.{AllowsReply, IsRun, after}

-- the same words, and the same rows or keys; how much room there is behind them makes no difference
abbrev pub TellTheSame : Reply → Reply → Type 0
TellTheSame (reply.Rows a) (reply.Rows b) = a.items ≡ b.items
TellTheSame (reply.Keys a) (reply.Keys b) = a.items ≡ b.items
TellTheSame a b = a ≡ b

-- the session has a cursor over the heap
abbrev pub HasHeapCursor : World → ℕ → Type 0
HasHeapCursor w s = (m : OpenSession) × (c : Cursor) × (w.session s ≡ Some m) × (m.cursor ≡ Some c) × (c.order ≡ by_heap)

-- the session reads by statement: each cursor of it keeps a snapshot of its own
abbrev pub IsOpenByStatement : World → ℕ → Type 0
IsOpenByStatement w s = (m : OpenSession) × (w.session s ≡ Some m) × (m.isolation ≡ by_statement)

-- What the history leaves open, for it does not know of it. It is memory, ids, room, which pages there are and which rows are on
-- one. It is also which of its rows a heap cursor hands out next, what a vacuum does and when it ends. At the steps that are not
-- named nothing is left open
abbrev pub IsLeftOpen : World → Step → Reply → Type 0
IsLeftOpen w (step.Begin s) (reply.Refused refusal.NoMemory) = Unit {0}
IsLeftOpen w (step.Insert s row) (reply.Refused refusal.NeedsFreeze) = Unit {0}
IsLeftOpen w (step.Insert s row) (reply.Refused refusal.NoRoom) = Unit {0}
IsLeftOpen w (step.Insert s row) (reply.Refused refusal.NoMemory) = Unit {0}
IsLeftOpen w (step.Update s row) (reply.Refused refusal.NeedsFreeze) = Unit {0}
IsLeftOpen w (step.Update s row) (reply.Refused refusal.NoRoom) = Unit {0}
IsLeftOpen w (step.Update s row) (reply.Refused refusal.NoMemory) = Unit {0}
IsLeftOpen w (step.Delete s k) (reply.Refused refusal.NeedsFreeze) = Unit {0}
IsLeftOpen w (step.Delete s k) (reply.Refused refusal.NoMemory) = Unit {0}
IsLeftOpen w (step.Savepoint s) (reply.Refused refusal.NoMemory) = Unit {0}
IsLeftOpen w (step.OpenIndex s index low high) (reply.Refused refusal.NoMemory) = IsOpenByStatement w s
IsLeftOpen w (step.OpenHeap s) (reply.Refused refusal.NoMemory) = IsOpenByStatement w s
IsLeftOpen w (step.OpenKeys s low high) (reply.Refused refusal.NoMemory) = IsOpenByStatement w s
IsLeftOpen w (step.Next s n) (reply.Rows rows) = HasHeapCursor w s
IsLeftOpen w (step.Next s n) (reply.Refused refusal.NoMemory) = Unit {0}
IsLeftOpen w (step.TakePage s p) (reply.Rows rows) = Unit {0}
IsLeftOpen w (step.TakePage s p) (reply.Refused refusal.NoSuchPage) = Unit {0}
IsLeftOpen w (step.TakePage s p) (reply.Refused refusal.NoMemory) = Unit {0}
IsLeftOpen w (step.Prune p) (reply.Refused refusal.NoSuchPage) = Unit {0}
IsLeftOpen w (step.ApplyPlan p plan) (reply.Refused refusal.NoSuchPage) = Unit {0}
IsLeftOpen w (step.ApplyPlan p plan) (reply.Refused refusal.Stale) = Unit {0}
IsLeftOpen w step.VacuumStep (reply.Worked piece) = Unit {0}
IsLeftOpen w step.VacuumStep (reply.Ended first) = Unit {0}
IsLeftOpen w (step.CreateIndex c) (reply.Refused refusal.NoMemory) = Unit {0}
IsLeftOpen w step reply = ⊥

-- the refusal is for what the history does not know
abbrev pub IsOfTheEngine : Refusal → Type 0
IsOfTheEngine refusal.NeedsFreeze = Unit {0}
IsOfTheEngine refusal.NoRoom = Unit {0}
IsOfTheEngine refusal.NoMemory = Unit {0}
IsOfTheEngine refusal.NoSuchPage = Unit {0}
IsOfTheEngine refusal.Stale = Unit {0}
IsOfTheEngine refusal = ⊥

-- the answer leaves nothing open beside it: another refusal, a row that was read, the end of a transaction or of a cursor's rows
abbrev pub IsDue : Reply → Type 0
IsDue (reply.Refused refusal) = ¬ IsOfTheEngine refusal
IsDue (reply.Found row) = Unit {0}
IsDue reply.Committed = Unit {0}
IsDue reply.RolledBack = Unit {0}
IsDue reply.End = Unit {0}
IsDue reply = ⊥

-- of answers that are not left open there is one. Where such an answer is due, it is the one that may be given
pub record HasOneAnswer (w : World) (step : Step) : Type 0 where
  pub one : (a b : Reply) → AllowsReply w step a → AllowsReply w step b → ¬ IsLeftOpen w step a → ¬ IsLeftOpen w step b → TellTheSame a b
  pub due : (a b : Reply) → AllowsReply w step a → AllowsReply w step b → IsDue a → TellTheSame a b

-- so it is of each step after any run from a beginning
abbrev pub RunsHaveOneAnswer : Type 0
RunsHaveOneAnswer = (columns : List Bool) (steps : List Step) (replies : List Reply) → IsRun (beginning columns) steps replies
    → (step : Step) → HasOneAnswer (after (beginning columns) steps replies) step

-- no index would be made
abbrev pub MakesNone : Step → Type 0
MakesNone (step.CreateIndex c) = ⊥
MakesNone step = Unit {0}

-- It is open indeed. Where a step may be done, each refusal that is left open may be answered; where the step makes an index, if that is
-- lacking
pub record IsOpenIndeed (w : World) : Type 0 where
  pub done : (step : Step) (r : Refusal) → MakesNone step → AllowsReply w step reply.Done → IsLeftOpen w step (reply.Refused r) → AllowsReply w step (reply.Refused r)
  pub lacking : (c : ℕ) (r : Refusal) → LacksIndex w c → AllowsReply w (step.CreateIndex c) reply.Done → IsLeftOpen w (step.CreateIndex c) (reply.Refused r) → AllowsReply w (step.CreateIndex c) (reply.Refused r)
