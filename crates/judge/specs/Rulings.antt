-- What the judge says.
use Rattle.std.specs.Prelude.{◌≡◌, List, Bool}
use Rattle.history.specs.World.{World, beginning}
use Rattle.history.specs.Events.{StepsReach}
use Rattle.calls.specs.declared.step.Step.{Step}
use Rattle.calls.specs.declared.step.Step.TheVariants as step
use Rattle.calls.specs.declared.reply.Reply.{Reply}
use Rattle.calls.specs.declared.reply.Reply.TheVariants as reply
use Rattle.refinement.specs.Allowed.{AllowsReply, after_reply}
use Rattle.one_answer.specs.OneAnswer.{IsDue, IsLeftOpen}
use Rattle.calls.specs.declared.reply.Refusal.{Refusal}
use Rattle.calls.specs.declared.reply.Refusal.TheVariants as refusal
use Rattle.plain_history.specs.declared.refusal.Refused.{Refused}
use Rattle.plain_history.specs.declared.refusal.Refused.TheVariants.{By}
use Rattle.plain_history.specs.declared.refusal.Refused.TheVariants as refused
use Rattle.judge.specs.declared.judge.Ruling.{Ruling}
use Rattle.judge.specs.declared.judge.Ruling.TheVariants.{Allowed, Broken}
use Rattle.judge.specs.declared.expect.Expected.{Expected}
use Rattle.judge.specs.declared.expect.Expected.TheVariants.{Due, Free}

-- what is left open at the step is a refusal, which may stand in the place of Done
abbrev pub IsFreelyRefused : Step → Type 0
IsFreelyRefused (step.Next s n) = ⊥
IsFreelyRefused (step.TakePage s p) = ⊥
IsFreelyRefused step.VacuumStep = ⊥
IsFreelyRefused (step.CreateIndex c) = ⊥
IsFreelyRefused step = Unit {0}

-- a run leads to the world
abbrev pub IsReached : World → Type 0
IsReached w = (columns : List Bool) × StepsReach (beginning columns) w

-- an answer that is allowed leads on, and one that is not changes nothing
abbrev pub Judges : World → Step → Reply → Ruling → World → Type 0
Judges w step reply Allowed after = AllowsReply w step reply × (after ≡ after_reply w step reply)
Judges w step reply Broken after = (¬ AllowsReply w step reply) × (after ≡ w)

-- the one answer that may be given, or that the step may be done
abbrev pub Expects : World → Step → Expected → Type 0
Expects w step (Due answer) = AllowsReply w step answer × IsDue answer
Expects w step Free = AllowsReply w step reply.Done

-- it was done, or a refusal is left open in its place
abbrev pub IsFree : World → Step → Reply → Type 0
IsFree w step reply.Done = Unit {0}
IsFree w step (reply.Refused refusal) = IsLeftOpen w step (reply.Refused refusal)
IsFree w step reply = ⊥

-- the refusal that the plain program tells
abbrev pub refusal_of : Refused → Refusal
refusal_of (By refusal) = refusal
refusal_of refused.Deadlock = refusal.Deadlock
