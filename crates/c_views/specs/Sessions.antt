-- An open session, as C reads it.
use Rattle.std.specs.Prelude.{◌≡◌, ℕ, Bool, true, false, length, Option, Some, None, slice_get}
use Rattle.std.specs.Option.{is_some, option_map, unwrap_or}
use Rattle.xid_circle.specs.Numbers.{SessionNo, Count}
use Rattle.snapshot.specs.Snap.{Snap}
use Rattle.table_scans.specs.declared.progress.CursorScan.{CursorScan}
use Rattle.table_scans.specs.declared.progress.CursorScan.TheVariants.{Rows, Keys}
use Rattle.table_scans.specs.declared.progress.Scan.TheVariants.{Index, Heap}
use Rattle.sessions.specs.declared.session.Session.{Session}
use Rattle.sessions.specs.declared.session.SessionIsolation.{SessionIsolation}
use Rattle.sessions.specs.declared.session.SessionIsolation.TheVariants.{BySnapshot, ByStatement}
use Rattle.session_steps.specs.State.{State, session_at}
use Rattle.sessions.specs.Session.{kept_by}
use Rattle.session_core.specs.State.{WaitingView, wait_at}
use Rattle.c_views.specs.declared.session.SandpiperSnapshot.{SandpiperSnapshot}
use Rattle.c_views.specs.declared.session.SandpiperSession.{SandpiperSession}

abbrev pub reads_by_statement : SessionIsolation → Bool
reads_by_statement (BySnapshot snap) = false
reads_by_statement (ByStatement kept) = true

abbrev pub number_of_cursor : Option CursorScan → ℕ
number_of_cursor None = 0
number_of_cursor (Some (Rows (Index range))) = 1
number_of_cursor (Some (Rows (Heap place))) = 2
number_of_cursor (Some (Keys range)) = 3

abbrev pub shown_snapshot : Option Snap → SandpiperSnapshot
shown_snapshot None = record { is_kept = false; is_overflowed = false; xmin = 0; xmax = 0; listed = 0 }
shown_snapshot (Some s) = record { is_kept = true; is_overflowed = s.overflowed; xmin = s.xmin; xmax = s.xmax; listed = length s.listed }

-- the session, and for whom it waits
abbrev pub shown_session : Session → Option SessionNo → SandpiperSession
shown_session e waits = record {
  is_by_statement = reads_by_statement e.isolation;
  has_failed = e.failed;
  is_waiting = is_some waits;
  waits_for = unwrap_or waits 0;
  cursor = number_of_cursor e.cursor;
  savepoints = length e.own.saved;
  ids = length e.own.ids;
  snapshot = shown_snapshot (kept_by e.isolation);
}

-- the session is open, and this is what it is like
pub record IsSessionShown (engine : WaitingView) (s : SessionNo) (shown : SandpiperSession) : Type 0 where
  pub session : Session
  pub there : session_at engine.engine.core s ≡ Some session
  pub is_shown : shown ≡ shown_session session (wait_at engine s)

-- it is open, and has this id in this place of its own, or none there
pub record IsOwnId (st : State) (s : SessionNo) (n : Count) (id : Option ℕ) : Type 0 where
  pub session : Session
  pub there : session_at st s ≡ Some session
  pub is_id : id ≡ slice_get session.own.ids n

-- it is open, and had so many ids of its own at this savepoint, 0 the newest, or has no such savepoint
pub record AreIdsAt (st : State) (s : SessionNo) (savepoint : Count) (count : Option ℕ) : Type 0 where
  pub session : Session
  pub there : session_at st s ≡ Some session
  pub is_count : count ≡ option_map length (slice_get session.own.saved savepoint)

-- what a snapshot lists in this place, if there is one
abbrev pub listed_in : Option Snap → Count → Option ℕ
listed_in None n = None
listed_in (Some s) n = slice_get s.listed n

-- it is open, and the snapshot that it keeps lists this id in this place, or none there
pub record IsListedId (st : State) (s : SessionNo) (n : Count) (id : Option ℕ) : Type 0 where
  pub session : Session
  pub there : session_at st s ≡ Some session
  pub is_id : id ≡ listed_in (kept_by session.isolation) n
