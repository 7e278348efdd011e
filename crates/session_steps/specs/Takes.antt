-- What a session's cursor hands out: rows, or keys.
use Rattle.std.specs.Prelude.{◌≡◌, ℕ, max, List, Some}
use Rattle.xid_circle.specs.Numbers.{SessionNo, Count}
use Rattle.tuple_header.specs.declared.version.Row.{Row}
use Rattle.snapshot.specs.Snap.{Snap}
use Rattle.visibility.specs.Visible.{IsVisible}
use Rattle.visibility.specs.declared.reader.Reader.{Reader}
use Rattle.table_scans.specs.declared.progress.CursorScan.{CursorScan}
use Rattle.table_scans.specs.declared.progress.CursorScan.TheVariants.{Rows, Keys}
use Rattle.table_scans.specs.Scans.{Sight}
use Rattle.table_scans.specs.Takes as scans
use Rattle.table_scans.specs.Keys.{TakesKeys}
use Rattle.sessions.specs.declared.session.Session.{Session}
use Rattle.session_steps.specs.State.{State, session_at, put_session, with_cursor}
use Rattle.sessions.specs.Session.{cursor_snapshot}

-- the reader is the session, by this snapshot
pub record ReadsBy (st : State) (e : Session) (by : Snap) (r : Reader) : Type 0 where
  pub snapshot : r.snapshot.now ≡ by
  pub own : r.own.now ≡ e.own
  pub statuses : r.statuses.now ≡ st.heap.statuses

-- what the session's cursor sees of the table
abbrev pub session_sight : State → Session → Sight
session_sight st e = record { heap = st.heap; statuses = st.heap.statuses; sees = IsVisible st.heap.statuses (cursor_snapshot st.heap.statuses e.isolation) e.own.ids }

-- the session has handed out these rows, or keys, as its cursor takes them: that cursor alone moves, behind them
pub record HandsOutBy {C A : Type 0} (kind : C → CursorScan) (by : Sight → C → List A → C → Type 0) (old new : State) (s : SessionNo) (taken : List A) : Type 0 where
  pub session : Session
  pub there : session_at old s ≡ Some session
  pub before : C
  pub at : session.cursor ≡ Some (kind before)
  pub after : C
  pub takes : by (session_sight old session) before taken after
  pub is : new ≡ put_session old s (Some (with_cursor (Some (kind after)) session))

-- n rows were asked for
abbrev pub HandsOut : State → State → SessionNo → Count → List Row → Type 0
HandsOut old new s n rows = HandsOutBy Rows (λ sight before rows after. scans.Takes sight before n rows after) old new s rows

-- there was place for so many
abbrev pub HandsOutUpTo : State → State → SessionNo → Count → List Row → Type 0
HandsOutUpTo old new s most rows = HandsOutBy Rows (λ sight before rows after. scans.TakesUpTo sight before most rows after) old new s rows

-- of a cursor over keys alone: n were asked for
abbrev pub HandsOutByKeys : State → State → SessionNo → Count → List ℕ → Type 0
HandsOutByKeys old new s n keys = HandsOutBy Keys (λ sight before keys after. TakesKeys sight before after (max 1 n) keys) old new s keys
