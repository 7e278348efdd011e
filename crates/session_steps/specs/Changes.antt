-- What the engine's own changes do to its state.
use Rattle.std.specs.Prelude.{◌≡◌, ℕ, List, [], ◌++◌, Some, None, false, slice_set}
use Rattle.snapshot.specs.Own.{Own, newest}
use Rattle.commit_status.specs.declared.status.Status.{Status}
use Rattle.commit_status.specs.declared.status.Status.TheVariants.{Aborted}
use Rattle.commit_status.specs.Window.{IsWindow}
use Rattle.commit_status.specs.Changes.{Finishes}
use Rattle.sessions.specs.declared.session.Session.{Session}
use Rattle.sessions.specs.declared.session.SessionIsolation.{SessionIsolation}
use Rattle.session_steps.specs.State.{State, session_at, put_session}
use Rattle.sessions.specs.Session.{is_too_new}

-- the session is open, reads so, has no ids, and may scan each index
pub record Opens (old new : State) (s : ℕ) (isolation : SessionIsolation) : Type 0 where
  pub session : Session
  pub is : new ≡ put_session old s (Some session)
  pub reads : session.isolation ≡ isolation
  pub no_ids : session.own.ids ≡ []
  pub unsaved : session.own.saved ≡ []
  pub sound : session.failed ≡ false
  pub bare : session.cursor ≡ None
  pub scans_all : (n : ℕ) → is_too_new session n ≡ false

-- the session is closed, and its ids have the status
pub record Closes (old new : State) (s : ℕ) (status : Status) : Type 0 where
  pub is : new ≡ record old { heap = record old.heap { statuses = new.heap.statuses }; sessions = slice_set old.sessions s None }
  pub finishes : (e : Session) → session_at old s ≡ Some e → Finishes old.heap.statuses new.heap.statuses e.own.ids status
  pub window : (e : Session) → session_at old s ≡ Some e → IsWindow new.heap.statuses
  pub idle : session_at old s ≡ None → new.heap.statuses ≡ old.heap.statuses

-- Savepoints.

-- nothing changes but the savepoints of an open session, which keeps its ids
pub record SavepointsBecome (old new : State) (s : ℕ) (saved_of : Own → List (List ℕ)) : Type 0 where
  pub session : Session
  pub at : session_at old s ≡ Some session
  pub own : Own
  pub is : new ≡ put_session old s (Some (record session { own = own }))
  pub ids : own.ids ≡ session.own.ids
  pub saved : own.saved ≡ saved_of session.own

-- An open session returns to its newest savepoint. It has the ids that it had there, keeps its savepoints, and has not failed. The ids that
-- it was given since are aborted. Nothing else changes.
pub record RollsBack (old new : State) (s : ℕ) : Type 0 where
  pub session : Session
  pub at : session_at old s ≡ Some session
  pub own : Own
  pub is : new ≡ record old { heap = record old.heap { statuses = new.heap.statuses }; sessions = slice_set old.sessions s (Some (record session { own = own; failed = false })) }
  pub ids : own.ids ≡ newest session.own.saved
  pub saved : own.saved ≡ session.own.saved
  pub since : List ℕ
  pub were : session.own.ids ≡ own.ids ++ since
  pub finishes : Finishes old.heap.statuses new.heap.statuses since Aborted
  pub window : IsWindow new.heap.statuses
