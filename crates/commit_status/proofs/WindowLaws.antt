-- The laws of a window.
use Rattle.std.proofs.Common.{◌≡◌, ℕ, ◌<◌, ◌↔◌, length, Some, ap, ◌∙◌, sym}
use Rattle.xid_circle.specs.Circle.{given}
use Rattle.commit_status.specs.Window.{Window, IsWindow, place}
use Rattle.commit_status.specs.Laws.{TopsFollowParents}
use Rattle.commit_status.proofs.Places.{given-place, place-given, place-lt}
use Rattle.commit_status.proofs.Ancestors.{top-none, top-parent, top-parentless}

pub places-turns : (w : Window) (x i : ℕ) → IsWindow w → (place w x ≡ Some i) ↔ ((given w.first i ≡ x) × (i < length w.entries))
places-turns w x i is = (
  λ e. (given-place w x i is e, place-lt w x i e),
  λ g. ap (place w) (sym g.0) ∙ place-given w i is g.1,
)

pub tops-topmost : (w : Window) (x : ℕ) → IsWindow w → TopsFollowParents w x
tops-topmost w x is = record {
  alone = λ e. top-none w x e;
  child = λ p e. top-parent w x p is e;
  parentless = top-parentless w x is;
}
