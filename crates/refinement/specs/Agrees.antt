-- When an engine, as its readers see it, agrees with a history that is never cleaned.
use Rattle.std.specs.Prelude.{◌≡◌, ℕ, ◌≤◌, List, [], ◌∷◌, length, Option, Some, None, IsSome, Contains}
use Rattle.xid_circle.specs.Numbers.{Id, Count}
use Rattle.xid_circle.specs.declared.Tid.{Tid}
use Rattle.tuple_header.specs.declared.version.Row.{Row}
use Rattle.tuple_header.specs.Version.{Version}
use Rattle.commit_status.specs.declared.status.Status.{Status}
use Rattle.history.specs.History.{Write, Transaction, written, committed, reading, IsLate}
use Rattle.history.specs.World.{World, Isolation, by_snapshot, by_statement, OpenSession, joined, own_write, start_now, Holds}
use Rattle.refinement.specs.Heap.{SeenIsolation, seen_by_snapshot, seen_by_statement, SeenSession, Heap, kept_snapshot, StatementSees, CursorSees}
use Rattle.visibility.specs.Seeing.{HasCommitted, IsRunning, Reads, VisibleBy, Touches, inserter, deleter}
use Rattle.refinement.specs.Visible.{ReaderSees, HasMissed, IsBy, At, SomeVersion}
use Rattle.refinement.specs.Cursors.{CursorAgrees}

-- the versions that are seen show exactly these rows, each by one version
pub record Shows (store : Tid → Option Version) (seen : Version → Type 0) (row : ℕ → Option Row) : Type 0 where
  pub sound : (p : Tid) (v : Version) → At store p v → seen v → row v.row.key ≡ Some v.row
  pub there : (k : ℕ) (r : Row) → row k ≡ Some r → SomeVersion store k seen
  pub one : (p q : Tid) (v u : Version) → At store p v → At store q u → seen v → seen u → v.row.key ≡ u.row.key → p ≡ q

-- a reader, with these ids of its own, agrees with who began at start and has written this
pub record ReaderAgrees (status : ℕ → Option Status) (store : Tid → Option Version) (history : List Transaction) (sees : ℕ → Type 0) (start : ℕ) (own : List ℕ) (writes : List Write) : Type 0 where
  pub rows : Shows store (ReaderSees status sees own) (reading history start writes)
  -- whoever reads the deletion reads the making
  pub whole : (p : Tid) (y : ℕ) (v : Version) → At store p v → deleter v.header ≡ Some y → Reads status sees own y → (x : ℕ) → inserter v.header ≡ Some x → Reads status sees own x
  -- what it wrote covers what was there: of a key that it has written it sees no version but what one of its own ids made
  pub covers : (p : Tid) (v : Version) → At store p v → ReaderSees status sees own v → IsSome (written writes v.row.key)
      → (x : ℕ) × (inserter v.header ≡ Some x) × Contains own x

-- the session as it is, and as it was at each savepoint, the newest first
abbrev pub LevelsAgree : (status : Id → Option Status) → (store : Tid → Option Version) → List Transaction → (sees : Id → Type 0) → (start : Count) → (own : List Id) → List (List Id) → List (List Write) → Type 0
LevelsAgree status store history sees start own [] (writes ∷ []) = ReaderAgrees status store history sees start own (joined (writes ∷ []))
LevelsAgree status store history sees start own (before ∷ saved) (writes ∷ levels) =
    ReaderAgrees status store history sees start own (joined (writes ∷ levels)) × ((x : ℕ) → Contains before x → Contains own x) × LevelsAgree status store history sees start before saved levels
LevelsAgree _ _ _ _ _ _ _ _ = ⊥

-- a key is written exactly where an id of P made or deleted a version of it
pub record Traced (store : Tid → Option Version) (P : ℕ → Type 0) (writes : List Write) : Type 0 where
  pub written_there : (k : ℕ) → IsSome (written writes k) → SomeVersion store k (IsBy P)
  pub there_written : (p : Tid) (v : Version) → At store p v → IsBy P v → IsSome (written writes v.row.key)

-- A key stands in a level exactly where an id of that level made or deleted a version of it. That id is one that the session has, and had
-- not at the savepoint that began the level
abbrev pub LevelTraces : (Tid → Option Version) → List ℕ → List (List ℕ) → List (List Write) → Type 0
LevelTraces store own [] (writes ∷ []) = Traced store (λ x. Contains own x) writes
LevelTraces store own (before ∷ saved) (writes ∷ levels) = Traced store (λ x. Contains own x × (¬ Contains before x)) writes × LevelTraces store before saved levels
LevelTraces _ _ _ _ = ⊥

-- a key is late exactly where a version of it has a committed id that the snapshot does not see
pub record TracesAgree (status : ℕ → Option Status) (store : Tid → Option Version) (history : List Transaction) (sees : ℕ → Type 0) (start : ℕ) : Type 0 where
  pub late_missed : (k : ℕ) → IsLate history start k → SomeVersion store k (HasMissed status sees)
  pub missed_late : (p : Tid) (v : Version) → At store p v → HasMissed status sees v → IsLate history start v.row.key
  -- where a version is current, and the snapshot sees who made it, its key is not late
  pub timely : (p : Tid) (v : Version) → At store p v → VisibleBy (HasCommitted status) v.header
      → ((x : ℕ) → inserter v.header ≡ Some x → sees x) → ¬ IsLate history start v.row.key

-- both read by snapshot, or both by statement
abbrev pub IsSameIsolation : SeenIsolation → Isolation → Type 0
IsSameIsolation (seen_by_snapshot snap) (by_snapshot start) = Unit {0}
IsSameIsolation (seen_by_statement kept) by_statement = Unit {0}
IsSameIsolation seen isolation = ⊥

-- A cursor reads, with these ids of its session's own, as who began when it was opened, and had written this. It sees nothing
-- that is in progress
pub record CursorReads (status : ℕ → Option Status) (store : Tid → Option Version) (history : List Transaction) (sees : ℕ → Type 0) (own : List ℕ) (writes : List Write) : Type 0 where
  pub start : ℕ
  pub began : start ≤ length history
  pub reads : ReaderAgrees status store history sees start own writes
  pub active_unseen : (x : ℕ) → IsRunning status x → ¬ sees x

-- an open session agrees with the model's: it reads by `sees`, as who began at `start`, and its cursor by `cursor_sees`
pub record SessionAgrees (status : ℕ → Option Status) (store : Tid → Option Version) (history : List Transaction)
    (sees : ℕ → Type 0) (start : ℕ) (cursor_sees : ℕ → Type 0) (e : SeenSession) (m : OpenSession) : Type 0 where
  pub same_failed : e.failed ≡ m.failed
  pub isolation : IsSameIsolation e.isolation m.isolation
  -- while its cursor is open, it keeps a snapshot
  pub kept : IsSome e.cursor → IsSome (kept_snapshot e.isolation)
  -- what its cursor has still to hand out is what the model's has
  pub cursor : CursorAgrees store (ReaderSees status cursor_sees e.own) e.cursor m.cursor
  pub cursor_reads : IsSome e.cursor → CursorReads status store history cursor_sees e.own (joined m.levels)
  -- it reads its view, and could return to each savepoint
  pub levels : LevelsAgree status store history sees start e.own e.saved m.levels
  -- what it has written at each level is what the ids of that level made and deleted
  pub level_traces : LevelTraces store e.own e.saved m.levels
  pub traces : TracesAgree status store history sees start
  pub began : start ≤ length history
  -- no key that it has written is late
  pub in_time : (k : ℕ) → IsSome (own_write m k) → ¬ IsLate history start k
  pub active_unseen : (x : ℕ) → IsRunning status x → ¬ sees x
  pub own_active : (x : ℕ) → Contains e.own x → IsRunning status x

-- the engine agrees with the model
pub record HeapAgrees (h : Heap) (w : World) : Type 0 where
  -- each session reads its view, and has exact traces
  pub opened : (s : ℕ) (e : SeenSession) → h.session s ≡ Some e → (m : OpenSession) × (w.session s ≡ Some m)
      × SessionAgrees h.status h.version w.history (StatementSees h e.isolation) (start_now w.history m) (CursorSees h e.isolation) e m
  -- same sessions
  pub idle : (s : ℕ) → h.session s ≡ None → w.session s ≡ None
  -- a new session would read what is committed
  pub current : Shows h.version (λ v. VisibleBy (HasCommitted h.status) v.header) (committed w.history (length w.history))
  -- whose deletion is committed, its making is
  pub made : (p : Tid) (y : ℕ) (v : Version) → At h.version p v → deleter v.header ≡ Some y → HasCommitted h.status y → (x : ℕ) → inserter v.header ≡ Some x → HasCommitted h.status x
  -- each id on a page lies in the window
  pub given : (p : Tid) (x : ℕ) (v : Version) → At h.version p v → Touches x v.header → IsSome (h.status x)
  -- each id in progress is one open session's
  pub owned : (x : ℕ) → IsRunning h.status x → (s : ℕ) × (e : SeenSession) × (h.session s ≡ Some e) × Contains e.own x
  pub apart : (s o : ℕ) (e f : SeenSession) (x : ℕ) → h.session s ≡ Some e → h.session o ≡ Some f → Contains e.own x → Contains f.own x → s ≡ o
  -- no two open sessions hold one key
  pub alone : (s o k : ℕ) → Holds w s k → Holds w o k → s ≡ o
