-- What the steps of an engine change of what its readers see.
use Rattle.std.specs.Prelude.{◌⊎◌, ◌≡◌, ◌≢◌, ℕ, List, [], ◌∷◌, ◌++◌, length, Option, Some, None}
use Rattle.xid_circle.specs.Numbers.{Id}
use Rattle.xid_circle.specs.declared.Tid.{Tid}
use Rattle.tuple_header.specs.Version.{Version}
use Rattle.commit_status.specs.declared.status.Status.{Status}
use Rattle.snapshot.specs.Snap.{Snap}
use Rattle.snapshot.specs.Own.{saved_with}
use Rattle.refinement.specs.Heap.{SeenSession, IsKeptSnapshot}
use Rattle.visibility.specs.Seeing.{IsRunning, HasCommitted, HasAborted, inserter, deleter}
use Rattle.refinement.specs.Visible.{At}

-- the version is put into a place that had none
pub record AddsVersion (store store' : Tid → Option Version) (p : Tid) (new : Version) : Type 0 where
  pub here : At store' p new
  pub unused : store p ≡ None
  pub others : (q : Tid) → q ≢ p → store' q ≡ store q

-- the version at the place becomes the new one
pub record Alters (store store' : Tid → Option Version) (p : Tid) (v new : Version) : Type 0 where
  pub before : At store p v
  pub here : At store' p new
  pub others : (q : Tid) → q ≢ p → store' q ≡ store q

-- Nobody reads the version any more: who made it was rolled back, or who deleted it has committed and is seen by every
-- snapshot that is kept. (The manual's "Routine Vacuuming": a version is removed once no transaction can see it.)
pub data IsPast (status : ℕ → Option Status) (sees : Snap → ℕ → Type 0) (session : ℕ → Option SeenSession) (v : Version) : Type 0 where
  never_was : (x : ℕ) → inserter v.header ≡ Some x → HasAborted status x → IsPast status sees session v
  is_over : (y : ℕ) → deleter v.header ≡ Some y → HasCommitted status y → ((snap : Snap) → IsKeptSnapshot session snap → sees snap y)
      → IsPast status sees session v

-- versions of P may go; no other does, and none comes or moves
pub record MayRemove (store store' : Tid → Option Version) (P : Version → Type 0) : Type 0 where
  pub kept : (p : Tid) (v : Version) → At store' p v → At store p v
  pub gone : (p : Tid) (v : Version) → At store p v → At store' p v ⊎ P v

-- the id is given, and is in progress
pub record GivesNext (status status' : ℕ → Option Status) (x : ℕ) : Type 0 where
  pub fresh : status x ≡ None
  pub active : IsRunning status' x
  pub others : (y : ℕ) → y ≢ x → status' y ≡ status y

-- the ids are given, one after another, and are in progress
abbrev pub GivesEach : (ℕ → Option Status) → List ℕ → (ℕ → Option Status) → Type 0
GivesEach status [] status' = status' ≡ status
GivesEach status (x ∷ xs) status' = (between : ℕ → Option Status) × GivesNext status between x × GivesEach between xs status'

-- the id becomes one of the level that n savepoints stand above: a return to any of these keeps it
abbrev pub with_id : ℕ → ℕ → SeenSession → SeenSession
with_id n x e = record e { own = e.own ++ x ∷ []; saved = saved_with n x e.saved }

-- The ids become those of as many levels, the newest, and the first of them is the lowest level's. A level's first write
-- gives an id to every level below that has none, parents before children (AssignTransactionId of the source)
abbrev pub with_ids : List ℕ → SeenSession → SeenSession
with_ids [] e = e
with_ids (x ∷ xs) e = with_ids xs (with_id (length xs) x e)

-- the ids of P are finished, and no other changes
pub record FinishesIds (status status' : ℕ → Option Status) (P : ℕ → Type 0) (end : Status) : Type 0 where
  pub active : (x : ℕ) → P x → IsRunning status x
  pub each : (x : ℕ) → (P x × (status' x ≡ Some end)) ⊎ ((¬ P x) × (status' x ≡ status x))

-- the same is seen of each id of the window
abbrev pub SameSight : (status : Id → Option Status) → (sees sees' : Id → Type 0) → Type 0
SameSight status sees sees' = (x : ℕ) (s : Status) → status x ≡ Some s → (sees x → sees' x) × (sees' x → sees x)
