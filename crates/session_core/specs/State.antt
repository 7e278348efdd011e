-- An engine whose sessions wait for each other, as its callers see it.
use Rattle.std.specs.Prelude.{◌≡◌, ◌==◌, not, map, List, length, Option, Some, None, slice_set}
use Rattle.xid_circle.specs.Numbers.{SessionNo}
use Rattle.history.specs.World.{World}
use Rattle.history.specs.Cursors.{kept_where}
use Rattle.calls.specs.declared.step.Step.{Step}
use Rattle.calls.specs.declared.step.Step.TheVariants as step
use Rattle.calls.specs.declared.step.TheConstants.{MOST_SESSIONS}
use Rattle.calls.specs.declared.reply.Reply.{Reply}
use Rattle.calls.specs.declared.reply.Reply.TheVariants as reply
use Rattle.calls.specs.declared.reply.Refusal.TheVariants as refusal
use Rattle.calls.specs.Steps.{session_of}
use Rattle.waits.specs.View.{wait_in}
use Rattle.vacuum_engine.specs.State.{EngineView}
use Rattle.vacuum_engine.specs.Agrees.{EngineAgrees}

pub record WaitingView : Type 0 where
  -- the engine below, which lets nobody wait
  pub engine : EngineView
  -- for whom each session waits
  pub waits : List (Option SessionNo)

-- the engine below, and who waits
abbrev pub with_waits : EngineView → List (Option SessionNo) → WaitingView
with_waits e waits = record { engine = e; waits = waits }

-- for whom the session waits
abbrev pub wait_at : WaitingView → SessionNo → Option SessionNo
wait_at e s = wait_in e.waits s

-- the engine below agrees with the world, and each session waits for whom it waits there
pub record WaitingAgrees (e : WaitingView) (w : World) : Type 0 where
  pub engine : EngineAgrees e.engine w
  pub count : length e.waits ≡ MOST_SESSIONS
  pub waits : (s : SessionNo) → wait_at e s ≡ w.waits_for s

-- What a step does to the waits.

-- the session, if the step is one's, waits for this one from then on, or for none
abbrev pub noted_wait : Option SessionNo → Option SessionNo → List (Option SessionNo) → List (Option SessionNo)
noted_wait None o waits = waits
noted_wait (Some s) o waits = slice_set waits s o

-- nobody waits for the session any more
abbrev pub woken : SessionNo → List (Option SessionNo) → List (Option SessionNo)
woken s waits = map (kept_where (λ o. not (o == s))) waits

-- the step gives back the keys of a level, or of all
abbrev pub given_back : Step → List (Option SessionNo) → List (Option SessionNo)
given_back (step.RollbackTo s) waits = woken s waits
given_back (step.Commit s) waits = woken s waits
given_back (step.Abort s) waits = woken s waits
given_back step waits = waits

-- The waits after a reply: by any step the session's own wait ends, and by Busy one begins. A step that is done gives back.
abbrev pub waits_after : Step → Reply → List (Option SessionNo) → List (Option SessionNo)
waits_after step (reply.Refused (refusal.Busy o)) waits = noted_wait (session_of step) (Some o) waits
waits_after step (reply.Refused refusal) waits = noted_wait (session_of step) None waits
waits_after step reply waits = given_back step (noted_wait (session_of step) None waits)
