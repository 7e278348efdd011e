-- Ascending places are on ascending pages.
use Rattle.std.proofs.Common.{◌≡◌, ◌∙◌, ℕ, ◌<◌, ◌≤◌, inl, inr, List, length, Some, slice_get, sym, ap, arith, Contains}
use Rattle.std.specs.Ordering.{nat_cmp}
use Rattle.std.specs.declared.cmp.Ordering.TheVariants.{Less, Equal}
use Rattle.std.proofs.lemmas.Bool.{cases_lt}
use Rattle.std.proofs.lemmas.Cmp.{ranked}
use Rattle.std.proofs.lemmas.Option.{slice_get-get_or}
use Rattle.xid_circle.specs.declared.Tid.{Tid}
use Rattle.dead_places.specs.Places.{PlacePrecedes, AreAscending}
use Rattle.dead_places.proofs.PlaceLemmas.{less_both, ascending-at, same_number}

page_le : (a b : Tid) → PlacePrecedes a b → a.page ≤ b.page
page_le a b h = elim (less_both (nat_cmp a.page b.page) (nat_cmp a.slot b.slot) h) [
  | inl less ↦ let lt : a.page < b.page = ranked a.page b.page Less (sym less) in omega arith
  | inr both ↦ let same : a.page ≡ b.page = ranked a.page b.page Equal (sym both.0) in omega arith
]

pages_at : (xs : List Tid) (i j : ℕ) (a b : Tid) → AreAscending xs → i ≤ j → slice_get xs i ≡ Some a → slice_get xs j ≡ Some b → a.page ≤ b.page
pages_at xs i j a b up le at_i at_j = elim (cases_lt i j) [
  | inl lt ↦ page_le a b (ascending-at xs i j a b up lt at_i at_j)
  | inr ge ↦ let same : a.page ≡ b.page = ap (λ (t : Tid). t.page) (same_number xs i j a b (omega arith) at_i at_j) in omega arith
]

number_of : (xs : List Tid) (t : Tid) → Contains xs t → (k : ℕ) × (k < length xs) × (slice_get xs k ≡ Some t)
number_of xs t (k, within, is) = (k, within, slice_get-get_or xs k t within ∙ ap Some is)

-- the first is on the lowest page
pub from_first : (xs : List Tid) (first : Tid) → AreAscending xs → slice_get xs 0 ≡ Some first → (t : Tid) → Contains xs t → first.page ≤ t.page
from_first xs first up at t there = let p = number_of xs t there in pages_at xs 0 p.0 first t up (omega arith) at p.2
