-- Why an answer is not allowed, and what is due.
use Rattle.std.specs.Prelude.{◌≡◌, ◌≢◌, ℕ}
use Rattle.history.specs.World.{World, Cursor, by_heap, Holds}
use Rattle.history.specs.Cursors.{IsOver}
use Rattle.calls.specs.declared.step.Step.{Step}
use Rattle.calls.specs.declared.step.Step.TheVariants as step
use Rattle.calls.specs.declared.reply.Reply.{Reply}
use Rattle.calls.specs.declared.reply.Reply.TheVariants as reply
use Rattle.calls.specs.declared.reply.Refusal.{Refusal}
use Rattle.calls.specs.declared.reply.Refusal.TheVariants as refusal
use Rattle.refinement.specs.Allowed.{AllowsReply}
use Rattle.one_answer.specs.OneAnswer.{TellTheSame, IsOpenByStatement, IsDue, IsLeftOpen}
use Rattle.judge.specs.declared.due.Due.{Due}
use Rattle.judge.specs.declared.due.Due.TheVariants.{Alone, Or, Open}
use Rattle.judge.specs.declared.why.Rule.{Rule}
use Rattle.judge.specs.declared.why.Rule.TheVariants as rule
use Rattle.judge.specs.Rulings.{IsFreelyRefused, IsFree}
use Rattle.judge.specs.Handing.{MayHand}

-- this answer may be given and no other, or no other that is not left open; or all that may be is left open
abbrev pub TellsDue : World → Step → Due → Type 0
TellsDue w step (Alone answer) = AllowsReply w step answer × IsDue answer
TellsDue w step (Or answer) = AllowsReply w step answer × (¬ IsLeftOpen w step answer)
TellsDue w step Open = (answer : Reply) × AllowsReply w step answer × IsLeftOpen w step answer

-- the same of what a cursor hands out
abbrev pub HandsDue : Cursor → ℕ → Due → Type 0
HandsDue c n (Alone answer) = MayHand c n answer × IsDue answer
HandsDue c n (Or answer) = MayHand c n answer × (answer ≢ reply.Refused refusal.NoMemory) × (c.order ≢ by_heap)
HandsDue c n Open = ¬ IsOver c.rest

-- the rule by which a session sees what others wrote
abbrev pub IsRuleOfView : Rule → World → ℕ → Type 0
IsRuleOfView rule.Statement w s = IsOpenByStatement w s
IsRuleOfView rule.OneSnapshot w s = ¬ IsOpenByStatement w s
IsRuleOfView r w s = ⊥

-- and reads a key
abbrev pub IsRuleOfRead : Rule → World → (s key : ℕ) → Type 0
IsRuleOfRead rule.OwnWrites w s key = Holds w s key
IsRuleOfRead r w s key = (¬ Holds w s key) × IsRuleOfView r w s

-- the rule by which a refusal comes
abbrev pub rule_of_refusal : Refusal → Rule
rule_of_refusal refusal.AlreadyThere = rule.ViewOfAWrite
rule_of_refusal refusal.NotThere = rule.ViewOfAWrite
rule_of_refusal refusal.Conflict = rule.FirstCommitterWins
rule_of_refusal (refusal.Busy o) = rule.OneWriter
rule_of_refusal refusal.Deadlock = rule.Ring
rule_of_refusal refusal.TooDeep = rule.Savepoint
rule_of_refusal refusal.NoSavepoint = rule.Savepoint
rule_of_refusal refusal.NoSuchIndex = rule.Index
rule_of_refusal refusal.IndexTooNew = rule.Index
rule_of_refusal refusal.IndexBusy = rule.Index
rule_of_refusal refusal.BadBounds = rule.Cursor
rule_of_refusal refusal.VacuumRunning = rule.Vacuum
rule_of_refusal refusal.NoVacuum = rule.Vacuum
rule_of_refusal refusal.NeedsFreeze = rule.NoRefusal
rule_of_refusal refusal.NoRoom = rule.NoRefusal
rule_of_refusal refusal.NoMemory = rule.NoRefusal
rule_of_refusal refusal.NoSuchPage = rule.NoRefusal
rule_of_refusal refusal.Stale = rule.NoRefusal
rule_of_refusal refusal = rule.OrderOfTests

-- the rule by which an answer to the step comes
abbrev pub GoesBy : Rule → World → Step → Reply → Type 0
GoesBy r w step (reply.Refused refusal) = r ≡ rule_of_refusal refusal
GoesBy r w (step.Get s key) (reply.Found row) = IsRuleOfRead r w s key
GoesBy r w step reply.Committed = r ≡ rule.Commit
GoesBy r w step reply.RolledBack = r ≡ rule.Commit
GoesBy r w step (reply.Rows rows) = r ≡ rule.Cursor
GoesBy r w step (reply.Keys keys) = r ≡ rule.Cursor
GoesBy r w step reply.End = r ≡ rule.Cursor
GoesBy r w step reply = r ≡ rule.NoRefusal

-- the rule by which all goes that may be answered to the step, where more than one answer may be given
abbrev pub IsRuleOfStep : Rule → World → Step → Type 0
IsRuleOfStep r w (step.Next s n) = r ≡ rule.Cursor
IsRuleOfStep r w (step.TakePage s p) = IsRuleOfView r w s
IsRuleOfStep r w step.VacuumStep = r ≡ rule.Vacuum
IsRuleOfStep r w (step.CreateIndex c) = r ≡ rule.Index
IsRuleOfStep r w step = ⊥

-- the answer to the step breaks the rule
pub data Breaks (r : Rule) (w : World) (step : Step) (answer : Reply) : Type 0 where
  -- another was due, which comes by the rule
  misses : (due : Reply) → AllowsReply w step due → IsDue due → GoesBy r w step due → ¬ TellTheSame due answer → Breaks r w step answer
  -- the step could be done: what was answered comes by the rule, without a reason
  unfounded : IsFreelyRefused step → AllowsReply w step reply.Done → GoesBy r w step answer → ¬ IsFree w step answer → Breaks r w step answer
  -- of all that could be answered, which comes by the rule, it is nothing
  astray : IsRuleOfStep r w step → ¬ AllowsReply w step answer → Breaks r w step answer
