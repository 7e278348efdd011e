-- To believe, 5 of 5 (docs/reading.md).
-- What an engine promises of each step, whose sessions wait for each other.
use Rattle.std.specs.Prelude.{◌≡◌, ℕ, Some, None, true, replicate, slice_set}
use Rattle.std.specs.Option.{option_map}
use Rattle.history.specs.World.{World, beginning}
use Rattle.calls.specs.declared.settings.Settings.{Settings}
use Rattle.calls.specs.declared.step.Step.{Step}
use Rattle.calls.specs.declared.step.TheConstants.{MOST_SESSIONS}
use Rattle.calls.specs.declared.reply.Reply.{Reply}
use Rattle.calls.specs.declared.reply.Reply.TheVariants as reply
use Rattle.calls.specs.declared.reply.Refusal.TheVariants as refusal
use Rattle.calls.specs.Steps.{session_of}
use Rattle.refinement.specs.Allowed.{AllowsReply, after_reply}
use Rattle.session_steps.specs.State.{refused_state}
use Rattle.session_steps.specs.Agrees.{KeepsAllTargets}
use Rattle.vacuum_passes.specs.View.{VacuumView, disturbed}
use Rattle.vacuum_engine.specs.Clauses.{EndsWell, StaysBelow, OnEnd}
use Rattle.vacuum_engine.specs.Exact.{EngineExact}
use Rattle.vacuum_engine.specs.New.{IsNewEngine}
use Rattle.session_core.specs.State.{WaitingView, WaitingAgrees, waits_after}

-- Whatever world the engine agreed with, the history allows the reply. The engine agrees with the world after it, where the same sessions
-- wait. No index entry leads to a slot that was given to another row. A vacuum that is alone has taken fewer steps than its bound. One
-- that ends, ends well.
abbrev pub WaitingFollows : WaitingView → Step → Reply → WaitingView → Type 0
WaitingFollows old step reply new = (w : World) → WaitingAgrees old w
    → AllowsReply w step reply × WaitingAgrees new (after_reply w step reply)
    × KeepsAllTargets old.engine.core new.engine.core × StaysBelow new.engine
    × OnEnd reply ((v : VacuumView) → old.engine.vacuum ≡ Some v → EndsWell old.engine new.engine w v)

-- A session was told Deadlock: the engine below is what a Conflict makes of it, and the session waits for nobody.
pub record IsDeadlocked (old : WaitingView) (step : Step) (new : WaitingView) : Type 0 where
  pub session : ℕ
  pub of : session_of step ≡ Some session
  pub core : new.engine.core ≡ refused_state old.engine.core session refusal.Conflict
  pub vacuum : new.engine.vacuum ≡ option_map (disturbed true) old.engine.vacuum
  pub waits : new.waits ≡ slice_set old.waits session None

-- What any step does, and no more. (That Deadlock is answered to sessions alone is known of an engine that agrees with a world.)
abbrev pub WaitingExact : WaitingView → Step → Reply → WaitingView → Type 0
WaitingExact old step (reply.Refused refusal.Deadlock) new = (w : World) → WaitingAgrees old w → IsDeadlocked old step new
WaitingExact old step reply new = EngineExact old.engine step reply new.engine × (new.waits ≡ waits_after step reply old.waits)

-- an engine of these settings on which nothing was done, and nobody waits
pub record IsNewWaiting (asked : Settings) (e : WaitingView) : Type 0 where
  pub engine : IsNewEngine asked e.engine
  pub waits : e.waits ≡ replicate MOST_SESSIONS None
  pub agrees : WaitingAgrees e (beginning asked.indexed)
