-- What the fields of a table keep: a window, and its next id beside it.
use Rattle.std.specs.Prelude.{◌≡◌, ℕ}
use Rattle.xid_circle.specs.Circle.{IsNormal}
use Rattle.commit_status.specs.Window.{Window, IsWindow, next_id}

pub record IsStatusTable (w : Window) (next : ℕ) : Type 0 where
  pub window : IsWindow w
  pub normal : IsNormal next
  pub next_is : next ≡ next_id w
