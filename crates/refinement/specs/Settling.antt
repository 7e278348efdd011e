-- What freezing and forgetting do to what readers see.
use Rattle.std.specs.Prelude.{◌≡◌, ◌≢◌, ◌⊎◌, ◌↔◌, ℕ, Option, Some, None}
use Rattle.xid_circle.specs.declared.Tid.{Tid}
use Rattle.tuple_header.specs.Version.{Version}
use Rattle.commit_status.specs.declared.status.Status.{Status}
use Rattle.commit_status.specs.declared.status.Status.TheVariants.{Aborted}
use Rattle.snapshot.specs.Snap.{Snap}
use Rattle.history.specs.World.{World}
use Rattle.refinement.specs.Heap.{Heap, IsKeptSnapshot}
use Rattle.visibility.specs.Seeing.{HasCommitted, HasAborted, IsRunning, Touches, inserter, deleter}
use Rattle.refinement.specs.Visible.{At}
use Rattle.refinement.specs.Agrees.{HeapAgrees}

-- the inserter stays, or counts for everybody: it committed, and every snapshot that is kept sees it
pub data MakerSettles (h : Heap) (v u : Version) : Type 0 where
  stays : inserter u.header ≡ inserter v.header → MakerSettles h v u
  settles : (x : ℕ) → inserter v.header ≡ Some x → inserter u.header ≡ None → HasCommitted h.status x → ((snap : Snap) → IsKeptSnapshot h.session snap → h.sees snap x) → MakerSettles h v u

-- the deleter stays, or was rolled back and leaves no trace
pub data DeleterSettles (h : Heap) (v u : Version) : Type 0 where
  stays : deleter u.header ≡ deleter v.header → DeleterSettles h v u
  goes : (y : ℕ) → deleter v.header ≡ Some y → deleter u.header ≡ None → HasAborted h.status y → DeleterSettles h v u

pub record VersionSettles (h : Heap) (v u : Version) : Type 0 where
  pub row : u.row ≡ v.row
  pub inserter : MakerSettles h v u
  pub deleter : DeleterSettles h v u

pub record Settles (h : Heap) (store' : Tid → Option Version) : Type 0 where
  pub forth : (p : Tid) (v : Version) → At h.version p v → (u : Version) × At store' p u × VersionSettles h v u
  pub back : (p : Tid) (u : Version) → At store' p u → (v : Version) × At h.version p v × VersionSettles h v u

abbrev pub SettlingIsUnseen : Type 1
SettlingIsUnseen = (h : Heap) (w : World) (store' : Tid → Option Version) → Settles h store' → HeapAgrees h w → HeapAgrees (record h { version = store' }) w

-- Ids are forgotten that no version there and no session needs, and of those that stay the same is
-- seen. (Nobody asks whether a snapshot sees an id that was rolled back.)
pub record ForgetsIds (h : Heap) (status' : ℕ → Option Status) (sees' : Snap → ℕ → Type 0) : Type 1 where
  pub each : (x : ℕ) → (status' x ≡ h.status x) ⊎ (status' x ≡ None)
  pub touched : (p : Tid) (v : Version) (x : ℕ) → At h.version p v → Touches x v.header → status' x ≡ h.status x
  pub active : (x : ℕ) → IsRunning h.status x → status' x ≡ h.status x
  pub sight : (snap : Snap) → IsKeptSnapshot h.session snap → (x : ℕ) (status : Status)
      → status ≢ Aborted → status' x ≡ Some status → h.sees snap x ↔ sees' snap x

abbrev pub ForgettingIsUnseen : Type 1
ForgettingIsUnseen = (h : Heap) (w : World) (status' : ℕ → Option Status) (sees' : Snap → ℕ → Type 0) → ForgetsIds h status' sees' → HeapAgrees h w
    → HeapAgrees (record h { status = status'; sees = sees' }) w
