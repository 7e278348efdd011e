-- Ids in the order of giving, and what became of one.
use Rattle.std.proofs.Common.{◌≡◌, ℕ, ◌+◌, List, ◌++◌, ◌∷◌, [], refl, sym, ap, ◌∙◌, add-one, arith, subst}
use Rattle.xid_circle.specs.Circle.{next_of, given}
use Rattle.session_core.specs.State.{WaitingView}
use Rattle.shape_list.specs.declared.shape.Shape.{Shape}
use Rattle.shape_list.specs.declared.shape.Shape.TheVariants as shape
use Rattle.shape_list.specs.declared.shape.IdShape.{IdShape}
use Rattle.shapes.specs.Shapes.{Adds, ArePieces, IsIdPiece, IsIdShape, left_out}
use Rattle.shapes.proofs.Adding.{no-pieces, one-more, adds-one}

pub given-more : (first n : ℕ) → given first (n + 1) ≡ next_of (given first n)
given-more first n = rw add-one refl

plus-none : (a : ℕ) → a ≡ a + 0
plus-none a = omega arith

one-behind : (a n : ℕ) → (a + n) + 1 ≡ a + (n + 1)
one-behind a n = omega arith

-- The ids so far: the engine is as it was, this is the next id, and those before it are added.
pub record IdsSoFar (start now : WaitingView) (x n : ℕ) (old new : List Shape) : Type 0 where
  pub same : now ≡ start
  pub at : x ≡ given start.engine.core.heap.statuses.first (left_out start.engine.core.heap.statuses + n)
  pub added : Adds (ArePieces (λ i. IsIdPiece start.engine.core (given start.engine.core.heap.statuses.first (left_out start.engine.core.heap.statuses + i))) n) old new

pub no-ids : (e : WaitingView) (x : ℕ) (old : List Shape) → x ≡ given e.engine.core.heap.statuses.first (left_out e.engine.core.heap.statuses) → IdsSoFar e e x 0 old old
no-ids e x old at = record {
  same = refl;
  at = at ∙ ap (given e.engine.core.heap.statuses.first) (plus-none (left_out e.engine.core.heap.statuses));
  added = no-pieces (λ i. IsIdPiece e.engine.core (given e.engine.core.heap.statuses.first (left_out e.engine.core.heap.statuses + i))) old;
}

pub one-id : (start now then : WaitingView) (x y n : ℕ) (id : IdShape) (old middle new : List Shape) → IdsSoFar start now x n old middle → then ≡ now → IsIdShape now.engine.core x id
    → new ≡ middle ++ shape.Id id ∷ [] → y ≡ next_of x → IdsSoFar start then y (n + 1) old new
one-id start now then x y n id old middle new so_far same is behind next = record {
  same = same ∙ so_far.same;
  at = next ∙ ap next_of so_far.at ∙ sym (given-more first (left + n)) ∙ ap (given first) (one-behind left n);
  added = one-more Piece n old middle new so_far.added (adds-one (IsIdShape start.engine.core (given first (left + n))) shape.Id id middle new
      (subst (λ k. IsIdShape start.engine.core k id) so_far.at (subst (λ (e : WaitingView). IsIdShape e.engine.core x id) so_far.same is)) behind);
}
  where
    first : ℕ
    first = start.engine.core.heap.statuses.first

    left : ℕ
    left = left_out start.engine.core.heap.statuses

    Piece : ℕ → List Shape → Type 0
    Piece i = IsIdPiece start.engine.core (given first (left + i))
