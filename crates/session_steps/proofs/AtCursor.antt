-- What the cursor of an open session has still to hand out, as the relation has it.
use Rattle.std.proofs.Common.{◌≡◌, ℕ, ◌<◌, List, [], ◌∷◌, length, slice_get, Some, refl, arith}
use Rattle.tuple_header.specs.declared.version.Row.{Row}
use Rattle.tuple_header.specs.Version.{Version}
use Rattle.visibility.specs.Visible.{state_of}
use Rattle.history.specs.World.{World}
use Rattle.refinement.specs.Heap as relation
use Rattle.refinement.specs.Visible.{ReaderSees}
use Rattle.refinement.specs.Cursors.{Comes}
use Rattle.table_scans.specs.declared.progress.CursorScan.{CursorScan}
use Rattle.table_scans.specs.declared.progress.CursorScan.TheVariants.{Rows, Keys}
use Rattle.table_scans.specs.declared.progress.Scan.TheVariants.{Index, Heap}
use Rattle.sessions.specs.declared.session.Session.{Session}
use Rattle.session_steps.specs.State.{State, session_at, seen, seen_position}
use Rattle.session_steps.specs.Agrees.{Agrees}
use Rattle.session_steps.proofs.Statements.{cursor_sight}

-- the versions that the session's cursor sees
abbrev pub seen_by : State → Session → Version → Type 0
seen_by st e = ReaderSees (state_of st.heap.statuses) (cursor_sight st e.isolation) e.own.ids

-- the session is open in an engine that agrees with a world, and its cursor is here
pub record IsAtCursor (st : State) (e : Session) (cursor : CursorScan) : Type 0 where
  pub world : World
  pub agrees : Agrees st world
  pub number : ℕ
  pub there : session_at st number ≡ Some e
  pub opened : e.cursor ≡ Some cursor

-- the row is seen, and still to come for a cursor that is here
abbrev pub IsSeenToCome : State → Session → CursorScan → Row → Type 0
IsSeenToCome st e (Rows (Index span)) row = Comes (seen st).version (seen_by st e) (relation.in_index span.index span.low span.high (seen_position span.last)) row
IsSeenToCome st e (Rows (Heap from)) row = Comes (seen st).version (seen_by st e) (relation.in_heap from) row
IsSeenToCome st e (Keys range) row = Comes (seen st).version (seen_by st e) (relation.in_keys range.low range.high (seen_position range.last)) row

-- no row is
abbrev pub NoneToCome : State → Session → CursorScan → Type 0
NoneToCome st e cursor = (row : Row) → ¬ IsSeenToCome st e cursor row

-- some row is
abbrev pub SomeToCome : State → Session → CursorScan → Type 0
SomeToCome st e cursor = (row : Row) × IsSeenToCome st e cursor row

-- the first of some rows
pub first-row : (rows : List Row) → 0 < length rows → (row : Row) × (slice_get rows 0 ≡ Some row)
first-row [] some = absurd (omega arith)
first-row (row ∷ rows) some = (row, refl)
