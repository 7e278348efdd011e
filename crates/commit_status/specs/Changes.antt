-- What the steps of a table do to its window.
use Rattle.std.specs.Prelude.{◌≡◌, ℕ, ◌+◌, ◌<◌, ◌⊎◌, List, [], ◌∷◌, ◌++◌, length, Option, Contains, drop, map}
use Rattle.xid_circle.specs.Circle.{distance_of, given}
use Rattle.xid_circle.specs.declared.Xid.{Xid}
use Rattle.commit_status.specs.declared.status.Status.{Status}
use Rattle.commit_status.specs.declared.status.Status.TheVariants.{InProgress}
use Rattle.commit_status.specs.Window.{IdEntry, Window, IsGiven, status_of, parent_of, turns}

abbrev pub numbers : List Xid → List ℕ
numbers ids = map (λ (x : Xid). x.0) ids

-- an id that was just given
abbrev pub given_entry : Option ℕ → IdEntry
given_entry parent = record { status = InProgress; parent = parent }

-- the next id is given, under this parent
pub record Gives (old new : Window) (parent : Option ℕ) : Type 0 where
  pub first : new.first ≡ old.first
  pub stop_age : new.stop_age ≡ old.stop_age
  pub entries : new.entries ≡ old.entries ++ given_entry parent ∷ []

-- none of the next n ids is too far from the first
abbrev pub CanGive : Window → ℕ → Type 0
CanGive w n = (i : ℕ) → i < n → distance_of w.first (given w.first (length w.entries + i)) < w.stop_age

-- these ids have the status now, and nothing else changes
pub record Finishes (old new : Window) (ids : List ℕ) (status : Status) : Type 0 where
  pub first : new.first ≡ old.first
  pub stop_age : new.stop_age ≡ old.stop_age
  pub count : length new.entries ≡ length old.entries
  pub spare : new.spare ≡ old.spare
  pub each : (x : ℕ) → (Contains ids x × IsGiven old x × (status_of new x ≡ status)) ⊎ ((¬ Contains ids x) × (status_of new x ≡ status_of old x))
  pub parents : (x : ℕ) → parent_of new x ≡ parent_of old x

-- the ids before x are forgotten
pub record Truncates (old new : Window) (x : ℕ) : Type 0 where
  pub first : new.first ≡ x
  pub stop_age : new.stop_age ≡ old.stop_age
  pub entries : new.entries ≡ drop (turns old.first x) old.entries
