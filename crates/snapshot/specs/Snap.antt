-- Which transactions a reader sees: those that had finished when its snapshot was taken.
-- The rules are those of the manual's "Transaction Isolation", and, for a snapshot that lists no children, of
-- "Subtransactions": of an id between, the topmost parent is looked up.
use Rattle.std.specs.Prelude.{ℕ, ◌^◌, nat_lt, nat_le, Bool, false, ◌||◌, if◌then◌else◌, List, [], ◌∷◌, ◌++◌, length, Contains}
use Rattle.std.specs.List.{fold}
use Rattle.xid_circle.specs.Circle.{Precedes, distance_of}
use Rattle.commit_status.specs.Window.{Window, top_of}
use Rattle.snapshot.specs.declared.snapshot.TheConstants.{MOST_LISTED}

pub record Snap : Type 0 where
  -- the earliest id that was in progress when it was taken, or else the next id
  pub xmin : ℕ
  -- the next id when it was taken
  pub xmax : ℕ
  -- ids that were in progress then
  pub listed : List ℕ
  -- whether the children of some transaction are not listed
  pub overflowed : Bool

-- an id by itself: it is before xmin, or before xmax and not listed
pub data SeesAlone (s : Snap) (x : ℕ) : Type 0 where
  early : Precedes x s.xmin → SeesAlone s x
  unlisted : Precedes x s.xmax → ¬ Contains s.listed x → SeesAlone s x

-- of an id between the topmost parent is tested, where children are not listed
abbrev pub tested : Snap → Window → ℕ → ℕ
tested s w x = if s.overflowed then top_of w x else x

-- what is before xmin is seen, what is at or after xmax is not, and of what is between that which is not listed
pub data Sees (s : Snap) (w : Window) (x : ℕ) : Type 0 where
  early : Precedes x s.xmin → Sees s w x
  between : Precedes x s.xmax → SeesAlone s (tested s w x) → Sees s w x

-- whether a stands before b on the circle
abbrev pub is_before : ℕ → ℕ → Bool
is_before a b = nat_le (2 ^ 31) (distance_of b a)

abbrev pub earlier : ℕ → ℕ → ℕ
earlier a b = if is_before b a then b else a

-- the earliest of an id and others
abbrev pub earliest : ℕ → List ℕ → ℕ
earliest x others = fold earlier x others

-- Taking a snapshot.

-- nobody is open
abbrev pub empty_at : ℕ → Snap
empty_at next = record { xmin = next; xmax = next; listed = []; overflowed = false }

-- more children than are listed
abbrev pub are_many : List ℕ → Bool
are_many children = nat_lt MOST_LISTED (length children)

-- an open transaction is listed: its topmost id, and its children where they are at most 64
abbrev pub listing : Snap → List ℕ → Snap
listing s [] = s
listing s (top ∷ children) = record {
  xmin = earlier s.xmin top;
  xmax = s.xmax;
  listed = s.listed ++ top ∷ (if are_many children then [] else children);
  overflowed = s.overflowed || are_many children;
}

-- the snapshot that is taken when this is the next id, and these are the open transactions' own ids
abbrev pub taken : ℕ → List (List ℕ) → Snap
taken next owns = fold listing (empty_at next) owns
