-- The pictures of pages, as text.
use Rattle.std.specs.Prelude.{◌≡◌, ℕ, zero, suc, List, [], ◌∷◌, ◌++◌, length}
use Rattle.session_core.specs.State.{WaitingView}
use Rattle.session_steps.specs.State.{State}
use Rattle.shape_list.specs.declared.shape.Shape.{Shape}
use Rattle.shapes.specs.Shapes.{IsPicture}
use Rattle.svg_text.specs.Svg.{Draws}

-- Texts that are added.

pub record AddsText (IsText : List ℕ → Type 0) (old new : List ℕ) : Type 0 where
  pub text : List ℕ
  pub is : IsText text
  pub behind : new ≡ old ++ text

-- Pictures.

-- the numbers below this one
abbrev pub numbers_below : ℕ → List ℕ
numbers_below zero = []
numbers_below (suc n) = numbers_below n ++ n ∷ []

-- all pages in use
abbrev pub all_pages : State → List ℕ
all_pages st = numbers_below (length st.heap.pages.pages)

-- those that were asked for; all, where none was
abbrev pub pages_asked : List ℕ → State → List ℕ
pages_asked [] st = all_pages st
pages_asked (p ∷ pages) st = p ∷ pages

-- a picture of pages of the table
abbrev pub IsPictureText : WaitingView → (pages : List ℕ) → List ℕ → Type 0
IsPictureText st pages text = (shapes : List Shape) × IsPicture st pages shapes × Draws shapes [] text
