-- The first and the last entry of a leaf, which it has apart, where one more is put among its entries.
use Rattle.std.proofs.Common.{◌≡◌, ◌∙◌, ℕ, zero, suc, ◌+◌, ◌-◌, ◌<◌, ◌≤◌, List, [], ◌∷◌, Some, length, slice_get, sym, ap, refl, arith}
use Rattle.std.specs.List.{insert}
use Rattle.std.proofs.lemmas.List.Edits.{length-insert}
use Rattle.index_entries.specs.declared.entry.Entry.{Entry}
use Rattle.index_entries.specs.Lists.{IsFirst, IsLast}

pub first_put : (was is y : Entry) (xs : List Entry) (i : ℕ) → i ≤ length xs → IsFirst was xs → (i ≡ 0 → is ≡ y) → (0 < i → is ≡ was) → IsFirst is (insert xs i y)
first_put was is y xs zero inside before front behind = front refl
first_put was is y [] (suc i) inside before front behind = absurd (omega (arith, inside))
first_put was is y (x ∷ xs) (suc i) inside before front behind = behind (omega arith) ∙ before

at_last : (was is y : Entry) (xs : List Entry) (i n : ℕ) → i ≤ length xs → n ≡ length xs → ((k : ℕ) → k + 1 ≡ length xs → slice_get xs k ≡ Some was)
    → (i ≡ length xs → is ≡ y) → (i < length xs → is ≡ was) → slice_get (insert xs i y) n ≡ Some is
at_last was is y [] zero n inside end before last among = ap (slice_get (y ∷ [])) end ∙ ap Some (sym (last refl))
at_last was is y [] (suc i) n inside end before last among = absurd (omega (arith, inside))
at_last was is y (x ∷ xs) zero n inside end before last among =
    ap (slice_get (y ∷ x ∷ xs)) end ∙ before (length xs) (omega arith) ∙ ap Some (sym (among (omega arith)))
at_last was is y (x ∷ xs) (suc i) n inside end before last among =
    ap (slice_get (x ∷ insert xs i y)) end
    ∙ at_last was is y xs i (length xs) (omega (arith, inside)) refl (λ k e. before (suc k) (omega (arith, e))) (λ e. last (omega (arith, e))) (λ lt. among (omega (arith, lt)))

pub last_put : (was is y : Entry) (xs : List Entry) (i : ℕ) → i ≤ length xs → IsLast was xs → (i ≡ length xs → is ≡ y) → (i < length xs → is ≡ was) → IsLast is (insert xs i y)
last_put was is y xs i inside before last among some =
    let long = length-insert xs i y in
    at_last was is y xs i (length (insert xs i y) - 1) inside (omega (arith, long))
    (λ k e. let at : k ≡ length xs - 1 = omega (arith, e) in ap (slice_get xs) at ∙ before (omega (arith, e))) last among
