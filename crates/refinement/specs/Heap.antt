-- An engine as its readers see it: what stands where, what became of each id, and who reads.
use Rattle.std.specs.Prelude.{◌≡◌, ℕ, ℤ, Bool, List, Option, Some, MatchOption}
use Rattle.xid_circle.specs.declared.Tid.{Tid}
use Rattle.tuple_header.specs.Version.{Version}
use Rattle.commit_status.specs.declared.status.Status.{Status}
use Rattle.snapshot.specs.Snap.{Snap}
use Rattle.visibility.specs.Seeing.{HasCommitted}
use Rattle.calls.specs.Bars.{SessionLooks}

-- a place in the order of an index: that of a row with this value and key
pub record RowPosition : Type 0 where
  pub value : ℤ
  pub key : ℕ

-- How far a cursor has got. It keeps no rows: it looks for them as it goes on
pub data Position : Type 0 where
  -- in the index of this number, between the bounds, after this place of its order, or at the beginning
  in_index : (index : ℕ) (low high : ℤ) (last : Option RowPosition) → Position
  -- in the heap, from this place on
  in_heap : (from : Tid) → Position
  -- over keys alone, between the bounds, after this place of the order of the index by key, or at the beginning
  in_keys : (low high : ℤ) (last : Option RowPosition) → Position

-- By which snapshot a session reads: by that of its beginning; or each of its statements by one of its own, which lists nobody and
-- is not kept. Then it keeps that by which its cursor was opened, until this is closed
pub data SeenIsolation : Type 0 where
  seen_by_snapshot : Snap → SeenIsolation
  seen_by_statement : (kept : Option Snap) → SeenIsolation

-- an open session
pub record SeenSession : Type 0 where
  pub isolation : SeenIsolation
  -- its ids that are not rolled back
  pub own : List ℕ
  -- for each savepoint, the newest first, the ids that it had then
  pub saved : List (List ℕ)
  pub failed : Bool
  pub cursor : Option Position

pub record Heap : Type 1 where
  -- the version at each place
  pub version : Tid → Option Version
  -- what became of each id; none where it is not in the window
  pub status : ℕ → Option Status
  -- whether a snapshot sees an id
  pub sees : Snap → ℕ → Type 0
  pub session : ℕ → Option SeenSession

-- the snapshot that a session keeps from step to step, if it keeps one
abbrev pub kept_snapshot : SeenIsolation → Option Snap
kept_snapshot (seen_by_snapshot snap) = Some snap
kept_snapshot (seen_by_statement kept) = kept

-- an open session keeps this snapshot
abbrev pub IsKeptSnapshot : (ℕ → Option SeenSession) → Snap → Type 0
IsKeptSnapshot session snap = (s : ℕ) × (e : SeenSession) × (session s ≡ Some e) × (kept_snapshot e.isolation ≡ Some snap)

-- whether a statement sees an id: by the snapshot of its session, or where the id has committed
abbrev pub SightOfStatement : (status : ℕ → Option Status) → (sees : Snap → ℕ → Type 0) → SeenIsolation → ℕ → Type 0
SightOfStatement status sees (seen_by_snapshot snap) x = sees snap x
SightOfStatement status sees (seen_by_statement kept) x = HasCommitted status x

-- whether a statement of a session of this engine does
abbrev pub StatementSees : Heap → SeenIsolation → ℕ → Type 0
StatementSees h isolation = SightOfStatement h.status h.sees isolation

-- whether its cursor does: by the snapshot that the session keeps
abbrev pub CursorSees : Heap → SeenIsolation → ℕ → Type 0
CursorSees h isolation x = MatchOption (kept_snapshot isolation) (HasCommitted h.status x) (λ snap. h.sees snap x)

-- its sessions, as far as what bars one from a step looks at them
abbrev pub seen_sessions : Heap → SessionLooks SeenSession Position
seen_sessions h = record { session = h.session; failed = λ e. e.failed; cursor = λ e. e.cursor }
