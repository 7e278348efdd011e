-- What comes of a step of the engine below, by its reply.
use Rattle.std.specs.Prelude.{◌≡◌, ◌≢◌, ℕ, Some, None, replicate, slice_set}
use Rattle.history.specs.World.{World, ClosesRing}
use Rattle.calls.specs.declared.settings.Settings.{Settings}
use Rattle.calls.specs.declared.step.Step.{Step}
use Rattle.calls.specs.declared.step.TheConstants.{MOST_SESSIONS}
use Rattle.calls.specs.declared.reply.Reply.{Reply}
use Rattle.calls.specs.declared.reply.Reply.TheVariants as reply
use Rattle.calls.specs.declared.reply.Refusal.TheVariants as refusal
use Rattle.calls.specs.Steps.{session_of}
use Rattle.refinement.specs.Allowed.{Allows}
use Rattle.vacuum_engine.specs.State.{EngineView, failed_at}
use Rattle.vacuum_engine.specs.Clauses.{EngineFollows}
use Rattle.vacuum_engine.specs.Exact.{EngineExact}
use Rattle.vacuum_engine.specs.New.{IsNewEngine}
use Rattle.waits.specs.View.{wait_in}
use Rattle.session_core.specs.State.{WaitingView, noted_wait, with_waits}
use Rattle.session_core.specs.Clauses.{WaitingFollows, WaitingExact, IsNewWaiting}
use Rattle.session_core.specs.Notes.{gives_back, NotesWait}
use Rattle.session_core.proofs.WaitsAfter.{freed}

-- no world allows Busy to the step as this reply
abbrev pub IsNeverBusy : Step → Reply → Type 0
IsNeverBusy step answer = (w : World) (o : ℕ) → Allows w step answer → answer ≢ reply.Refused (refusal.Busy o)

-- Answered otherwise than Busy, the session's own wait ends, and where it gave back keys nobody waits for it any more.
abbrev pub UnblockedFollows : Type 0
UnblockedFollows = (old : WaitingView) (step : Step) (reply : Reply) (below : EngineView) → IsNeverBusy step reply
    → EngineFollows old.engine step reply below
    → WaitingFollows old step reply (with_waits below (freed step reply (noted_wait (session_of step) None old.waits)))

-- So it is exactly, where the reply is not Busy.
abbrev pub UnblockedIsExact : Type 0
UnblockedIsExact = (old : WaitingView) (step : Step) (answer : Reply) (below : EngineView) → ((o : ℕ) → answer ≢ reply.Refused (refusal.Busy o))
    → EngineFollows old.engine step answer below → EngineExact old.engine step answer below
    → WaitingExact old step answer (with_waits below (freed step answer (noted_wait (session_of step) None old.waits)))

-- Answered Busy, and where that wait would close no ring, the session waits.
abbrev pub BlockedFollows : Type 0
BlockedFollows = (old : WaitingView) (step : Step) (s o : ℕ) (below : EngineView) → session_of step ≡ Some s
    → ¬ ClosesRing (wait_in old.waits) s o
    → EngineFollows old.engine step (reply.Refused (refusal.Busy o)) below → EngineExact old.engine step (reply.Refused (refusal.Busy o)) below
    → WaitingFollows old step (reply.Refused (refusal.Busy o)) (with_waits below (slice_set old.waits s (Some o)))
    × WaitingExact old step (reply.Refused (refusal.Busy o)) (with_waits below (slice_set old.waits s (Some o)))

-- Where it would close one, the session fails, and is told Deadlock.
abbrev pub DeadlockFollows : Type 0
DeadlockFollows = (old : WaitingView) (step : Step) (s o : ℕ) (below : EngineView) → session_of step ≡ Some s
    → ClosesRing (wait_in old.waits) s o
    → EngineFollows old.engine step (reply.Refused (refusal.Busy o)) below → EngineExact old.engine step (reply.Refused (refusal.Busy o)) below
    → WaitingFollows old step (reply.Refused refusal.Deadlock) (with_waits (failed_at below s) (slice_set old.waits s None))
    × WaitingExact old step (reply.Refused refusal.Deadlock) (with_waits (failed_at below s) (slice_set old.waits s None))

-- Nobody waits in a new engine.
abbrev pub NewIsWaiting : Type 0
NewIsWaiting = (asked : Settings) (e : EngineView) → IsNewEngine asked e → IsNewWaiting asked (with_waits e (replicate MOST_SESSIONS None))

-- What is noted of a session's step follows the history,
abbrev pub NotedFollows : Type 0
NotedFollows = (old new : WaitingView) (step : Step) (s : ℕ) (below : EngineView) (given answer : Reply) → session_of step ≡ Some s
    → EngineFollows old.engine step given below → EngineExact old.engine step given below
    → NotesWait (with_waits below old.waits) s (gives_back step) given new answer
    → WaitingFollows old step answer new × WaitingExact old step answer new

-- and what is noted of nobody's.
abbrev pub OwnerlessFollows : Type 0
OwnerlessFollows = (old : WaitingView) (step : Step) (below : EngineView) (given : Reply) → session_of step ≡ None
    → EngineFollows old.engine step given below → EngineExact old.engine step given below
    → WaitingFollows old step given (with_waits below old.waits) × WaitingExact old step given (with_waits below old.waits)
