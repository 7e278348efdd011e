-- What one version tells a writer, in an engine that agrees with the history.
use Rattle.std.specs.Prelude.{◌≡◌, ◌≢◌, ℕ, Option, Some, None}
use Rattle.xid_circle.specs.declared.Tid.{Tid}
use Rattle.tuple_header.specs.Version.{Version}
use Rattle.commit_status.specs.Window.{Window}
use Rattle.snapshot.specs.Snap.{Sees}
use Rattle.visibility.specs.Seeing.{deleter}
use Rattle.visibility.specs.Visible.{state_of}
use Rattle.history.specs.History.{IsLate}
use Rattle.history.specs.World.{World, OpenSession, start_now, Holds}
use Rattle.refinement.specs.Heap.{SeenSession, Heap, StatementSees}
use Rattle.refinement.specs.Visible.{ReaderSees, At}
use Rattle.refinement.specs.Agrees.{HeapAgrees}

-- what readers see of these versions, ids and sessions
abbrev pub heap_over : Window → (Tid → Option Version) → (ℕ → Option SeenSession) → Heap
heap_over ids version session = record { version = version; status = state_of ids; sees = λ snap x. Sees snap ids x; session = session }

-- the session's write of the key would meet none that committed since the start of its statement, and none of another open session
pub record MeetsNone (w : World) (s key : ℕ) (m : OpenSession) : Type 0 where
  pub in_time : ¬ IsLate w.history (start_now w.history m) key
  pub unheld : (o : ℕ) → o ≢ s → ¬ Holds w o key

-- Where an open session sees a version that nobody has deleted, the version's key is uncontested, whatever world is agreed with.
abbrev pub UndeletedIsUncontested : Type 0
UndeletedIsUncontested = (ids : Window) (version : Tid → Option Version) (session : ℕ → Option SeenSession) (w : World)
    → HeapAgrees (heap_over ids version session) w
    → (s : ℕ) (e : SeenSession) (m : OpenSession) → session s ≡ Some e → w.session s ≡ Some m
    → (p : Tid) (v : Version) → At version p v → ReaderSees (state_of ids) (StatementSees (heap_over ids version session) e.isolation) e.own v
    → deleter v.header ≡ None → MeetsNone w s v.row.key m
