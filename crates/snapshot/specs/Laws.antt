-- The laws of snapshots: what began or was in progress when one was taken is unseen, and what had finished is seen.
use Rattle.std.specs.Prelude.{◌≡◌, ℕ, ◌<◌, ◌≤◌, ◌⊎◌, List, Contains, Some, slice_get}
use Rattle.xid_circle.specs.Circle.{Precedes}
use Rattle.commit_status.specs.Window.{Window, IsWindow, IsActive, IsInProgress, IsUpToNext, turns, next_id, top_of}
use Rattle.snapshot.specs.Snap.{Snap, Sees, taken, earliest}

-- The open transactions' own ids: those in progress, each under its transaction's first.
pub record AreOpen (w : Window) (owns : List (List ℕ)) : Type 0 where
  pub active : (own : List ℕ) (x : ℕ) → Contains owns own → Contains own x → IsActive w x
  pub topmost : (own : List ℕ) (x : ℕ) → Contains owns own → Contains own x → slice_get own 0 ≡ Some (top_of w x)
  pub all : (x : ℕ) → IsActive w x → (own : List ℕ) × Contains owns own × Contains own x

-- xmin and xmax are in the window, or the next id
pub record IsBounded (w : Window) (s : Snap) : Type 0 where
  pub xmin : IsUpToNext w s.xmin
  pub xmax : IsUpToNext w s.xmax
  pub ordered : turns w.first s.xmin ≤ turns w.first s.xmax

-- an id from xmin on, and before xmax
pub record IsBetween (w : Window) (s : Snap) (x : ℕ) : Type 0 where
  pub upto : IsUpToNext w x
  pub from_xmin : turns w.first s.xmin ≤ turns w.first x
  pub before_xmax : turns w.first x < turns w.first s.xmax

-- The ids that a snapshot names are in the window, but for xmin and xmax, which may be the next id; each that it lists stands
-- between these two. (So it is of xip in src/include/utils/snapshot.h.)
pub record IsInWindow (w : Window) (s : Snap) : Type 0 where
  pub bounds : IsBounded w s
  pub listed : (x : ℕ) → Contains s.listed x → IsBetween w s x

-- An id that was in progress when the snapshot was taken is unseen, then and later. It is so in any window v where it
-- has the same topmost parent, whatever became of it.
abbrev pub OpenIsUnseen : Type 0
OpenIsUnseen = (w v : Window) (owns : List (List ℕ)) (x : ℕ) → IsWindow w → AreOpen w owns → IsActive w x → top_of v x ≡ top_of w x
    → ¬ Sees (taken (next_id w) owns) v x

-- an id that is given after the snapshot was taken is unseen
abbrev pub LaterIsUnseen : Type 0
LaterIsUnseen = (s : Snap) (v : Window) (x : ℕ) → IsWindow v → IsBounded v s → IsUpToNext v x → turns v.first s.xmax ≤ turns v.first x → ¬ Sees s v x

-- An id that had finished is seen, where its topmost parent had finished too. (A child that was rolled back while its
-- topmost parent goes on is unseen by a snapshot that lists no children; it is aborted, so nobody asks.)
abbrev pub FinishedIsSeen : Type 0
FinishedIsSeen = (w : Window) (owns : List (List ℕ)) (x : ℕ) → IsWindow w → AreOpen w owns → ¬ IsInProgress w x
    → (¬ IsInProgress w (top_of w x)) ⊎ Precedes (top_of w x) (taken (next_id w) owns).xmin → Sees (taken (next_id w) owns) w x

-- what stands before a horizon that is no later than its xmin is seen
abbrev pub PastIsSeen : Type 0
PastIsSeen = (w : Window) (s : Snap) (horizon x : ℕ) → IsWindow w → IsBounded w s → IsUpToNext w horizon → IsUpToNext w x
    → turns w.first horizon ≤ turns w.first s.xmin → Precedes x horizon → Sees s w x

-- a snapshot's verdict of an id changes only with the topmost parent
abbrev pub SeesByTop : Type 0
SeesByTop = (s : Snap) (v w : Window) (x : ℕ) → top_of v x ≡ top_of w x → Sees s w x → Sees s v x

-- what is taken now names ids of the window, and the next one
abbrev pub TakenIsInWindow : Type 0
TakenIsInWindow = (w : Window) (owns : List (List ℕ)) → IsWindow w → AreOpen w owns → IsInWindow w (taken (next_id w) owns)

-- the earliest of ids of the window is one of them, and no later than any
pub record IsEarliest (w : Window) (x : ℕ) (others : List ℕ) (e : ℕ) : Type 0 where
  pub is_one : (e ≡ x) ⊎ Contains others e
  pub first : turns w.first e ≤ turns w.first x
  pub least : (y : ℕ) → Contains others y → turns w.first e ≤ turns w.first y

abbrev pub EarliestIsFirst : Type 0
EarliestIsFirst = (w : Window) (x : ℕ) (others : List ℕ) → IsWindow w → IsUpToNext w x → ((y : ℕ) → Contains others y → IsUpToNext w y)
    → IsEarliest w x others (earliest x others)
