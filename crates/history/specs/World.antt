-- To believe, 2 of 5 (docs/reading.md).
-- The history and the sessions that are open on it.
use Rattle.std.specs.Prelude.{◌≡◌, ◌≢◌, ℕ, suc, ◌<◌, List, [], ◌∷◌, ◌++◌, length, Option, Some, None, Bool, true, false, IsSome, slice_index_or}
use Rattle.xid_circle.specs.Following.{ReachesIn}
use Rattle.tuple_header.specs.declared.version.Row.{Row}
use Rattle.calls.specs.Bars.{SessionLooks}
use Rattle.history.specs.History.{Write, Transaction, written, reading, IsLate}
use Rattle.tuple_header.specs.declared.version.TheConstants.{COLUMNS}

-- in which way a cursor goes over its rows: in the order of an index, in any order, or by their keys alone
pub data Order : Type 0 where
  by_index : (index : ℕ) → Order
  by_heap : Order
  by_keys : Order

-- what a cursor has not handed out yet: of each key its row as it was when the cursor was opened
pub record Cursor : Type 0 where
  pub order : Order
  pub rest : ℕ → Option Row

-- By which snapshot a session reads. It reads by that of its beginning, when so many transactions had committed, or by one
-- that each of its statements takes anew. (In the manual's section "Transaction Isolation" these are Repeatable Read and Read
-- Committed.)
pub data Isolation : Type 0 where
  by_snapshot : (start : ℕ) → Isolation
  by_statement : Isolation

-- An open session: by which snapshot it reads, and what it wrote at each level, the newest level first, and within a level
-- the oldest write first. A savepoint begins a level, so there is always one more than there are savepoints. Then whether
-- it can only be rolled back, its cursor, and whether it has written, be it that all of it was rolled back to a savepoint
-- since
pub record OpenSession : Type 0 where
  pub isolation : Isolation
  pub levels : List (List Write)
  pub failed : Bool
  pub cursor : Option Cursor
  pub has_written : Bool

-- All that has committed, the sessions that are open, for whom each waits, which indexes there are, and which of them are too new for a
-- session. Such a session was open by snapshot when the index was made. An index leads to the rows that were current when it was made,
-- and not to older ones, which such a session may read still (indcheckxmin in the source). And whether a vacuum runs, which changes
-- nothing of all this
pub record World : Type 0 where
  pub history : List Transaction
  pub session : ℕ → Option OpenSession
  pub waits_for : ℕ → Option ℕ
  pub has_index : ℕ → Bool
  pub too_new : (session index : ℕ) → Bool
  pub has_vacuum : Bool

-- the sessions, as far as what bars one from a step looks at them
abbrev pub world_sessions : World → SessionLooks OpenSession Cursor
world_sessions w = record { session = w.session; failed = λ m. m.failed; cursor = λ m. m.cursor }

-- index 0, by the key, is always there, and index c + 1 where column c is indexed
abbrev pub is_indexed : List Bool → ℕ → Bool
is_indexed columns index = slice_index_or (true ∷ columns) index false

-- nothing has committed, no session is open, these columns are indexed, and no vacuum runs
abbrev pub beginning : List Bool → World
beginning columns = record { history = []; session = λ _. None; waits_for = λ _. None; has_index = is_indexed columns; too_new = λ _ _. false; has_vacuum = false }

-- what the levels say together, the oldest write first
abbrev pub joined : List (List Write) → List Write
joined [] = []
joined (level ∷ older) = joined older ++ level

-- what the session's own last write to the key says
abbrev pub own_write : OpenSession → ℕ → Option (Option Row)
own_write m key = written (joined m.levels) key

-- how many transactions had committed when the snapshot was taken by which a statement reads now
abbrev pub start_by : Isolation → List Transaction → ℕ
start_by (by_snapshot start) history = start
start_by by_statement history = length history

-- the same of a statement of the session
abbrev pub start_now : List Transaction → OpenSession → ℕ
start_now history m = start_by m.isolation history

-- the row that the session reads
abbrev pub view : List Transaction → OpenSession → ℕ → Option Row
view history m key = reading history (start_now history m) (joined m.levels) key

-- the session is open and has the key in its levels
abbrev pub Holds : World → ℕ → ℕ → Type 0
Holds w s key = (m : OpenSession) × (w.session s ≡ Some m) × IsSome (own_write m key)

-- an open session has written, whether or not any of it is left
abbrev pub SomeoneHasWritten : World → Type 0
SomeoneHasWritten w = (s : ℕ) × (m : OpenSession) × (w.session s ≡ Some m) × (m.has_written ≡ true)

-- there is no index of the column, and may be one
abbrev pub LacksIndex : World → (column : ℕ) → Type 0
LacksIndex w c = (c < COLUMNS) × (w.has_index (suc c) ≡ false)

-- the index of the column may be made, or is there
abbrev pub MayIndex : World → (column : ℕ) → Type 0
MayIndex w c = (c < COLUMNS) × (w.has_index (suc c) ≡ false → ¬ SomeoneHasWritten w)

-- were s to wait for o, the waits, followed from o, would close a ring ("Deadlocks" in the manual's section on explicit locking)
abbrev pub ClosesRing : (waits : ℕ → Option ℕ) → (s o : ℕ) → Type 0
ClosesRing waits s o = (i : ℕ) × ReachesIn waits i o s

-- the index is there, and not too new for the session
abbrev pub MayScan : World → (session index : ℕ) → Type 0
MayScan w s index = (w.has_index index ≡ true) × (w.too_new s index ≡ false)

-- the session is open and has not failed
pub record IsReady (w : World) (s : ℕ) (m : OpenSession) : Type 0 where
  pub there : w.session s ≡ Some m
  pub sound : m.failed ≡ false

-- nor has it a cursor, which forbids its own session's writes
pub record IsWriter (w : World) (s : ℕ) (m : OpenSession) : Type 0 where
  pub ready : IsReady w s m
  pub bare : m.cursor ≡ None

-- its write of the key meets none that committed since the start of its statement, and none of another open session
pub record MayWrite (w : World) (s key : ℕ) (m : OpenSession) : Type 0 where
  pub writer : IsWriter w s m
  pub in_time : ¬ IsLate w.history (start_now w.history m) key
  pub unheld : (o : ℕ) → o ≢ s → ¬ Holds w o key

-- its write of the key has to wait for the session o, which holds it
pub record IsBlocked (w : World) (s key o : ℕ) (m : OpenSession) : Type 0 where
  pub writer : IsWriter w s m
  pub in_time : ¬ IsLate w.history (start_now w.history m) key
  pub other : o ≢ s
  pub held : Holds w o key
