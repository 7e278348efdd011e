-- The first page that has a property, looked for from the beginning on.
use Rattle.std.proofs.Common.{◌≡◌, ◌∙◌, ℕ, ◌+◌, ◌<◌, ◌≤◌, inl, inr, List, length, get_or, Some, slice_get, sym, ap, subst, arith}
use Rattle.std.proofs.lemmas.Bool.{cases_lt}
use Rattle.std.proofs.lemmas.Option.{slice_get-get_or, slice_get_within}
use Rattle.page_slots.specs.View.{PageView}
use Rattle.heap_pages.specs.Choice.{NoPage, IsFirstPage}

-- no page before this number has P
abbrev pub NoneBefore : List PageView → (PageView → Type 0) → ℕ → Type 0
NoneBefore pages P n = (k : ℕ) (page : PageView) → k < n → slice_get pages k ≡ Some page → ¬ P page

-- a search has come so far
pub record IsSearched (pages : List PageView) (P : PageView → Type 0) (from : ℕ) : Type 0 where
  pub within : from ≤ 65536
  pub none : NoneBefore pages P from

-- the page that was read at an index
pub read_at : (pages : List PageView) (n : ℕ) (page : PageView) → n < length pages → page ≡ get_or pages n page → slice_get pages n ≡ Some page
read_at pages n page within read = slice_get-get_or pages n page within ∙ ap Some (sym read)

same_page : (pages : List PageView) (k n : ℕ) (a b : PageView) → k ≡ n → slice_get pages k ≡ Some a → slice_get pages n ≡ Some b → a ≡ b
same_page pages k n a b same at_k at_n = cc

pub none-more : (pages : List PageView) (P : PageView → Type 0) (n : ℕ) (page : PageView) → NoneBefore pages P n
    → slice_get pages n ≡ Some page → ¬ P page → NoneBefore pages P (n + 1)
none-more pages P n page none at has_not k other lt at_k h =
    elim (cases_lt k n) [
      | inl below ↦ none k other below at_k h
      | inr le ↦ has_not (subst P (same_page pages k n other page (omega arith) at_k at) h)
    ]

pub none-all : (pages : List PageView) (P : PageView → Type 0) (n : ℕ) → length pages ≤ n → NoneBefore pages P n → NoPage pages P
none-all pages P n over none k page at h = none k page (omega (arith, slice_get_within pages k page at)) at h

pub first-here : (pages : List PageView) (P : PageView → Type 0) (n : ℕ) (page : PageView) → NoneBefore pages P n
    → slice_get pages n ≡ Some page → P page → IsFirstPage pages P n
first-here pages P n page none at has = record { page = page; there = at; has = has; before = none }
