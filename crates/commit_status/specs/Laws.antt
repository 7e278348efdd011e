-- The laws of a window: what places and topmost parents are, said without their reckoning.
use Rattle.std.specs.Prelude.{◌≡◌, ℕ, ◌<◌, ◌↔◌, length, Some, None}
use Rattle.xid_circle.specs.Circle.{given}
use Rattle.commit_status.specs.Window.{Window, IsWindow, place, parent_of, top_of}

-- an id has the place i exactly where it is given i turns after the first, and before the next id
abbrev pub PlacesAreTurns : Type 0
PlacesAreTurns = (w : Window) (x i : ℕ) → IsWindow w → (place w x ≡ Some i) ↔ ((given w.first i ≡ x) × (i < length w.entries))

-- an id without a parent is its own topmost, any other has its parent's, and what is topmost has no parent
pub record TopsFollowParents (w : Window) (x : ℕ) : Type 0 where
  pub alone : parent_of w x ≡ None → top_of w x ≡ x
  pub child : (p : ℕ) → parent_of w x ≡ Some p → top_of w x ≡ top_of w p
  pub parentless : parent_of w (top_of w x) ≡ None

abbrev pub TopsAreTopmost : Type 0
TopsAreTopmost = (w : Window) (x : ℕ) → IsWindow w → TopsFollowParents w x
