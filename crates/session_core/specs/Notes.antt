-- What the reply of the engine below makes of the waits.
use Rattle.std.specs.Prelude.{◌≡◌, ◌⊎◌, ℕ, Bool, true, false, if◌then◌else◌, Some, None, slice_set}
use Rattle.history.specs.World.{ClosesRing}
use Rattle.calls.specs.declared.step.Step.{Step}
use Rattle.calls.specs.declared.step.Step.TheVariants as step
use Rattle.calls.specs.declared.reply.Reply.{Reply}
use Rattle.calls.specs.declared.reply.Reply.TheVariants as reply
use Rattle.calls.specs.declared.reply.Refusal.TheVariants as refusal
use Rattle.waits.specs.View.{wait_in}
use Rattle.vacuum_engine.specs.State.{failed_at}
use Rattle.session_core.specs.State.{WaitingView, woken, with_waits}

-- the step gives back the keys of a level, or of all, where it is done
abbrev pub gives_back : Step → Bool
gives_back (step.RollbackTo s) = true
gives_back (step.Commit s) = true
gives_back (step.Abort s) = true
gives_back step = false

abbrev pub was_refused : Reply → Bool
was_refused (reply.Refused refusal) = true
was_refused answer = false

-- the wait closes no ring, and begins
pub record BeginsWait (old : WaitingView) (s o : ℕ) (new : WaitingView) (answer : Reply) : Type 0 where
  pub free : ¬ ClosesRing (wait_in old.waits) s o
  pub told : answer ≡ reply.Refused (refusal.Busy o)
  pub is : new ≡ with_waits old.engine (slice_set old.waits s (Some o))

-- it would close one, and the session fails
pub record MeetsRing (old : WaitingView) (s o : ℕ) (new : WaitingView) (answer : Reply) : Type 0 where
  pub ring : ClosesRing (wait_in old.waits) s o
  pub told : answer ≡ reply.Refused refusal.Deadlock
  pub is : new ≡ with_waits (failed_at old.engine s) (slice_set old.waits s None)

-- what is answered where the engine below gave this reply to a step of the session, and what comes of the waits
abbrev pub NotesWait : WaitingView → (s : ℕ) → (gives : Bool) → (given : Reply) → WaitingView → (answer : Reply) → Type 0
NotesWait old s gives (reply.Refused (refusal.Busy o)) new answer = BeginsWait old s o new answer ⊎ MeetsRing old s o new answer
NotesWait old s gives (reply.Refused refusal) new answer = (answer ≡ reply.Refused refusal) × (new ≡ with_waits old.engine (slice_set old.waits s None))
NotesWait old s gives given new answer = (answer ≡ given)
    × (new ≡ with_waits old.engine (if gives then woken s (slice_set old.waits s None) else slice_set old.waits s None))
