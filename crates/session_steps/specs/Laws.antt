-- What is found through an index, and what the horizon is.
use Rattle.std.specs.Prelude.{◌≡◌, ℕ, ℤ, List, [], ◌∷◌, ◌++◌, length, flat_map, Option, Some, None}
use Rattle.xid_circle.specs.declared.Tid.{Tid}
use Rattle.tuple_header.specs.declared.version.Row.{Row}
use Rattle.tuple_header.specs.Version.{Version}
use Rattle.commit_status.specs.Window.{next_id}
use Rattle.snapshot.specs.Laws.{IsEarliest}
use Rattle.snapshot.specs.Snap.{Snap, taken}
use Rattle.visibility.specs.Visible.{IsVisible}
use Rattle.sound_entries.specs.Leading.{IsByIndex}
use Rattle.table_indexes.specs.Indexes.{entries_in, IsInUse}
use Rattle.heap_write.specs.Heap.{HeapView, slots_of}
use Rattle.tuple_header.specs.IndexValue.{value_in}
use Rattle.history.specs.History.{Write, Transaction, committed, reading}
use Rattle.history.specs.World.{World, OpenSession, joined, start_now, view, MayScan}
use Rattle.sessions.specs.declared.session.Session.{Session}
use Rattle.session_steps.specs.State.{State, session_at, horizon_of}
use Rattle.sessions.specs.Session.{statement_snapshot, kept_by, kept_xmin, open_ones, owns_of}
use Rattle.session_steps.specs.Agrees.{Agrees}

-- a version that the reader sees stands in a chain to which an entry of this value and this key leads, in the index of this
-- number
abbrev pub IsFound : HeapView → Snap → List ℕ → ℕ → ℤ → ℕ → Tid → Version → Type 0
IsFound h s own n value key p t = IsByIndex h.statuses (slots_of h) (entries_in h.indexes n) value key (λ t. IsVisible h.statuses s own t.header) p t

-- what the reader finds there are exactly these rows, each under its own value and by one version
pub record FindsRows (h : HeapView) (s : Snap) (own : List ℕ) (n : ℕ) (row : ℕ → Option Row) : Type 0 where
  pub sound : (value : ℤ) (k : ℕ) (p : Tid) (t : Version) → IsFound h s own n value k p t → (row k ≡ Some t.row) × (value_in n t.row ≡ value)
  pub there : (k : ℕ) (r : Row) → row k ≡ Some r → (p : Tid) × (t : Version) × IsFound h s own n (value_in n r) k p t
  pub one : (value other : ℤ) (k : ℕ) (p q : Tid) (t u : Version) → IsFound h s own n value k p t → IsFound h s own n other k q u → p ≡ q

-- Returned to any of its savepoints, the newest first, a session would find what it read there: all but what it wrote since.
abbrev pub FindsAtEach : HeapView → Snap → ℕ → List Transaction → ℕ → List (List ℕ) → List (List Write) → Type 0
FindsAtEach h s n history start [] levels = Unit {0}
FindsAtEach h s n history start (before ∷ saved) [] = ⊥
FindsAtEach h s n history start (before ∷ saved) (since ∷ levels) = FindsRows h s before n (reading history start (joined levels)) × FindsAtEach h s n history start saved levels

-- a statement of an open session finds its view, and it could return to each savepoint
pub record FindsLevels (h : HeapView) (n : ℕ) (history : List Transaction) (e : Session) (m : OpenSession) : Type 0 where
  pub now : FindsRows h (statement_snapshot h.statuses e.isolation) e.own.ids n (view history m)
  pub saved : FindsAtEach h (statement_snapshot h.statuses e.isolation) n history (start_now history m) e.own.saved m.levels

-- Each open session finds its view through each index in use that it may scan, as it is and as it was at each savepoint. One
-- that would begin now finds what is committed through any.
abbrev pub ViewsByIndex : Type 0
ViewsByIndex = (st : State) (w : World) → Agrees st w → (n : ℕ) → IsInUse st.heap.indexes n
    → ((s : ℕ) (e : Session) (m : OpenSession) → session_at st s ≡ Some e → w.session s ≡ Some m → MayScan w s n → FindsLevels st.heap n w.history e m)
    × FindsRows st.heap (taken (next_id st.heap.statuses) (owns_of st.sessions)) [] n (committed w.history (length w.history))

-- what the open sessions have: the xmin of the snapshot that each keeps, if it keeps one, and all its ids
abbrev pub all_held : List (Option Session) → List ℕ
all_held sessions = flat_map (λ (e : Session). kept_xmin (kept_by e.isolation) ++ e.own.ids) (open_ones sessions)

-- The horizon, for which each session's first id is asked alone, is the earliest of the next id, each kept snapshot's xmin and all
-- open ids.
abbrev pub HorizonIsEarliest : Type 0
HorizonIsEarliest = (st : State) (w : World) → Agrees st w → IsEarliest st.heap.statuses (next_id st.heap.statuses) (all_held st.sessions) (horizon_of st)
