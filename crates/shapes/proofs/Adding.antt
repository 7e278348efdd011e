-- Shapes that are added behind others.
use Rattle.std.proofs.Common.{◌≡◌, ℕ, ◌+◌, List, [], ◌∷◌, ◌++◌, refl, sym, ap, ◌∙◌, append_assoc, add-one, subst, Some, slice_get}
use Rattle.session_steps.specs.State.{State}
use Rattle.std.proofs.lemmas.List.{append-nil}
use Rattle.session_core.specs.State.{WaitingView}
use Rattle.shape_list.specs.declared.shape.Shape.{Shape}
use Rattle.shapes.specs.Shapes.{IsOne, AreInTurn, ArePieces, Adds, IsPagePiece, IsAskedPage}

-- none
pub adds-nothing : (AreShapes : List Shape → Type 0) (old : List Shape) → AreShapes [] → Adds AreShapes old old
adds-nothing AreShapes old are = record { added = []; are = are; behind = sym (append-nil old) }

-- one
pub adds-one : {A : Type 0} (Is : A → Type 0) (of : A → Shape) (a : A) (old new : List Shape) → Is a → new ≡ old ++ of a ∷ [] → Adds (IsOne Is of) old new
adds-one Is of a old new is e = record { added = of a ∷ []; are = (a, is, refl); behind = e }

-- these
pub adds-list : (xs old new : List Shape) → new ≡ old ++ xs → Adds (λ shapes. shapes ≡ xs) old new
adds-list xs old new e = record { added = xs; are = refl; behind = e }

-- some, and others behind them
pub adds-joined : (AreFirst AreRest : List Shape → Type 0) (old middle new : List Shape) → Adds AreFirst old middle → Adds AreRest middle new → Adds (AreInTurn AreFirst AreRest) old new
adds-joined AreFirst AreRest old middle new a b = record {
  added = a.added ++ b.added;
  are = record { first = a.added; rest = b.added; are_first = a.are; are_rest = b.are; all = refl };
  behind = b.behind ∙ ap (λ shapes. shapes ++ b.added) a.behind ∙ append_assoc old a.added b.added;
}

-- no piece, and one more
pub no-pieces : (IsPiece : ℕ → List Shape → Type 0) (old : List Shape) → Adds (ArePieces IsPiece 0) old old
no-pieces IsPiece old = adds-nothing (ArePieces IsPiece 0) old refl

pub one-more : (IsPiece : ℕ → List Shape → Type 0) (n : ℕ) (old middle new : List Shape) → Adds (ArePieces IsPiece n) old middle → Adds (IsPiece n) middle new
    → Adds (ArePieces IsPiece (n + 1)) old new
one-more IsPiece n old middle new a b = rw add-one (adds-joined (ArePieces IsPiece n) (IsPiece n) old middle new a b)

-- The engine is as it was, and so many pieces are added.
pub record SoFar (IsPiece : WaitingView → ℕ → List Shape → Type 0) (start now : WaitingView) (n : ℕ) (old new : List Shape) : Type 0 where
  pub same : now ≡ start
  pub added : Adds (ArePieces (IsPiece start) n) old new

pub one-further : (IsPiece : WaitingView → ℕ → List Shape → Type 0) (start now then : WaitingView) (n : ℕ) (old middle new : List Shape) → SoFar IsPiece start now n old middle
    → then ≡ now → Adds (IsPiece now n) middle new → SoFar IsPiece start then (n + 1) old new
one-further IsPiece start now then n old middle new so_far same adds = record {
  same = same ∙ so_far.same;
  added = one-more (IsPiece start) n old middle new so_far.added (subst (λ (e : WaitingView). Adds (IsPiece e n) middle new) so_far.same adds);
}

-- a page that was asked for
pub asked-page : (st : State) (numbers : List ℕ) (i p : ℕ) (old new : List Shape) → slice_get numbers i ≡ Some p → Adds (IsPagePiece st p) old new → Adds (IsAskedPage st numbers i) old new
asked-page st numbers i p old new at a = record { added = a.added; are = (p, at, a.are); behind = a.behind }
