-- An index that is exact from an id on: which id that may be, and who may scan it. (indcheckxmin in src/include/catalog/pg_index.h.)
use Rattle.std.specs.Prelude.{◌≤◌, ℕ, Option, Some, None}
use Rattle.commit_status.specs.Window.{Window, IsActive, IsUpToNext, turns}
use Rattle.snapshot.specs.Snap.{Snap}

-- the id is remembered, or the next; and each id in progress was given no earlier
pub record HaveEndedBefore (w : Window) (id : ℕ) : Type 0 where
  pub upto : IsUpToNext w id
  pub ended : (x : ℕ) → IsActive w x → turns w.first id ≤ turns w.first x

-- an index may be exact from this id on; or it always was
abbrev pub IsExactSince : Window → Option ℕ → Type 0
IsExactSince w None = Unit {0}
IsExactSince w (Some id) = HaveEndedBefore w id

-- who reads by the snapshot may scan it: the snapshot's xmin is not before that id
abbrev pub MayScanSince : Window → Option ℕ → Snap → Type 0
MayScanSince w None s = Unit {0}
MayScanSince w (Some id) s = turns w.first id ≤ turns w.first s.xmin
