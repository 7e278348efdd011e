-- The world after a write that was refused, and what takes memory.
use Rattle.std.specs.Prelude.{ℕ, ◌==◌, if◌then◌else◌, Option}
use Rattle.history.specs.World.{World}
use Rattle.history.specs.Moves.{stepped, change, as_failed, blocked_by}
use Rattle.calls.specs.declared.step.Step.{Step}
use Rattle.calls.specs.declared.step.Step.TheVariants as step
use Rattle.calls.specs.declared.reply.Reply.{Reply}
use Rattle.calls.specs.declared.reply.Reply.TheVariants as reply
use Rattle.calls.specs.declared.reply.Refusal.{Refusal}
use Rattle.calls.specs.declared.reply.Refusal.TheVariants as refusal

abbrev pub after_refused : World → ℕ → Refusal → World
after_refused w s refusal.Conflict = change w s as_failed
after_refused w s (refusal.Busy o) = blocked_by w s o
after_refused w s refusal.Deadlock = change w s as_failed
after_refused w s refusal = stepped w s

-- the session waits for this one, or for nobody
abbrev pub with_wait : World → ℕ → Option ℕ → World
with_wait w s wait = record w { waits_for = λ t. if t == s then wait else w.waits_for t }

-- to follow an answer takes no memory
abbrev pub TakesNoMemory : Step → Type 0
TakesNoMemory (step.Insert s row) = ⊥
TakesNoMemory (step.Update s row) = ⊥
TakesNoMemory (step.Delete s k) = ⊥
TakesNoMemory (step.Savepoint s) = ⊥
TakesNoMemory (step.Release s) = ⊥
TakesNoMemory (step.Commit s) = ⊥
TakesNoMemory (step.OpenIndex s index low high) = ⊥
TakesNoMemory (step.OpenHeap s) = ⊥
TakesNoMemory (step.OpenKeys s low high) = ⊥
TakesNoMemory (step.Next s n) = ⊥
TakesNoMemory step = Unit {0}

-- but a write, a savepoint or its release that was done, an opened cursor, a commit, and rows that were handed out
abbrev pub TakesMemory : Step → Reply → Type 0
TakesMemory (step.Insert s row) reply.Done = Unit {0}
TakesMemory (step.Update s row) reply.Done = Unit {0}
TakesMemory (step.Delete s k) reply.Done = Unit {0}
TakesMemory (step.Savepoint s) reply.Done = Unit {0}
TakesMemory (step.Release s) reply.Done = Unit {0}
TakesMemory (step.Commit s) reply.Committed = Unit {0}
TakesMemory (step.OpenIndex s index low high) reply.Done = Unit {0}
TakesMemory (step.OpenHeap s) reply.Done = Unit {0}
TakesMemory (step.OpenKeys s low high) reply.Done = Unit {0}
TakesMemory (step.Next s n) (reply.Rows rows) = Unit {0}
TakesMemory step reply = ⊥
