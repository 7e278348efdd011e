-- All pages: how many they are, and that each is in use.
use Rattle.std.proofs.Common.{◌≡◌, ℕ, zero, suc, ◌+◌, ◌<◌, ◌≤◌, List, [], ◌∷◌, ◌++◌, length, refl, ap, length-append, ◌∙◌, sym, subst, arith, None, Some, slice_get}
use Rattle.std.proofs.lemmas.Option.{same_Some, none-some, slice_get_within}
use Rattle.session_steps.specs.State.{State}
use Rattle.page_slots.specs.View.{PageView}
use Rattle.shapes.specs.declared.fault.TheConstants.{MOST_PAGES}
use Rattle.shapes.specs.Shapes.{IsNotInUse, IsFirstNotInUse, CanBeShown}
use Rattle.shapes.specs.Pictures.{numbers_below, all_pages}

pub length-below : (n : ℕ) → length (numbers_below n) ≡ n
length-below zero = refl
length-below (suc n) = length-append (numbers_below n) (n ∷ []) ∙ ap (λ k. k + 1) (length-below n) ∙ omega arith

below : (n i p : ℕ) → slice_get (numbers_below n) i ≡ Some p → p < n
below zero i p at = absurd (let within = slice_get_within [] i p at in omega arith)
below (suc n) i p at = at_end (numbers_below n) (below n) i at
  where
    at_end : (xs : List ℕ) → ((j q : ℕ) → slice_get xs j ≡ Some q → q < n) → (j : ℕ) → slice_get (xs ++ n ∷ []) j ≡ Some p → p < suc n
    at_end [] each zero at = let e = same_Some n p at in omega arith
    at_end [] each (suc j) at = absurd (let within = slice_get_within [] j p at in omega arith)
    at_end (x ∷ xs) each zero at = let e = each 0 p at in omega arith
    at_end (x ∷ xs) each (suc j) at = at_end xs (λ k q e. each (suc k) q e) j at

in_use : (pages : List PageView) (n : ℕ) → n < length pages → slice_get pages n ≡ None → ⊥
in_use [] n within none = omega arith
in_use (x ∷ xs) zero within none = none-some x (sym none)
in_use (x ∷ xs) (suc n) within none = in_use xs n (omega (arith, within)) none

each-in_use : (st : State) (i p : ℕ) → slice_get (all_pages st) i ≡ Some p → ¬ IsNotInUse st p
each-in_use st i p asked none = in_use st.heap.pages.pages p (below (length st.heap.pages.pages) i p asked) none

-- none of them is named as one that is not in use
pub all-in-use : (st : State) (p : ℕ) → ¬ IsFirstNotInUse st (all_pages st) p
all-in-use st p is = each-in_use st is.at p is.asked is.unused

-- too many are there exactly where too many are asked for
pub too-many : (st : State) → MOST_PAGES < length st.heap.pages.pages → MOST_PAGES < length (all_pages st)
too-many st h = subst (λ k. MOST_PAGES < k) (sym (length-below (length st.heap.pages.pages))) h

pub too-wide : (st : State) → MOST_PAGES < length (all_pages st) → MOST_PAGES < length st.heap.pages.pages
too-wide st h = subst (λ k. MOST_PAGES < k) (length-below (length st.heap.pages.pages)) h

pub all-shown : (st : State) → length st.heap.pages.pages ≤ MOST_PAGES → CanBeShown st (all_pages st)
all-shown st h = (subst (λ k. k ≤ MOST_PAGES) (sym (length-below (length st.heap.pages.pages))) h, each-in_use st)
