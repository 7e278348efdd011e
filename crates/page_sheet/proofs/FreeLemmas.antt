-- The first unused slot, and the bytes that all versions take, after a change of the slots.
use Rattle.std.proofs.Common.{◌≡◌, ℕ, ◌+◌, ◌<◌, ◌≤◌, true, false, nat_lt, ⊎_elim, List, length, get_or, set, sum_by, sym, ap, ◌∙◌, refl, arith, eq-eqb}
use Rattle.std.proofs.lemmas.Bool.{cases_Bool, true≢false, ltb-true, ltb-false}
use Rattle.std.proofs.lemmas.List.{length-set, get_or-set_same, get_or-set_other}
use Rattle.std.proofs.lemmas.List.Sums.{fails_before_first, passes_at_first, sum_by-set, sum_by_push}
use Rattle.std.proofs.lemmas.List.Folds.{position_or_len_push}
use Rattle.std.specs.List.{position_or_len}
use Rattle.page_sheet.specs.declared.slot.Slot.{Slot}
use Rattle.page_sheet.specs.declared.slot.Slot.TheVariants.{Unused, Normal, Redirect, Dead}
use Rattle.page_sheet.specs.Slots.{is_unused, bytes_taken, has_unused, with_added}
use Rattle.page_sheet.proofs.SlotLemmas.{first_within}
use Rattle.page_layout.proofs.OrderLemmas.{same_or_other}

-- The search.

-- where none below a place is unused, the first unused slot is there or later
first-from : (slots : List Slot) (n : ℕ) → n ≤ length slots → ((k : ℕ) → k < n → is_unused (get_or slots k Unused) ≡ false)
    → n ≤ position_or_len is_unused slots
first-from slots n within none =
    ⊎_elim (λ before. let early = ltb-true (position_or_len is_unused slots) n before in
    let passes = passes_at_first is_unused slots Unused (omega arith) in
    absurd (true≢false (sym passes ∙ none (position_or_len is_unused slots) early)))
    (λ e. ltb-false (position_or_len is_unused slots) n e)
    (cases_Bool (nat_lt (position_or_len is_unused slots) n))

-- a slot that is not unused is passed
pub first-passed : (slots : List Slot) (i : ℕ) (d : Slot) → i ≤ position_or_len is_unused slots → i < length slots
    → is_unused (get_or slots i d) ≡ false → i + 1 ≤ position_or_len is_unused slots
first-passed slots i d from within used =
    ⊎_elim (λ before. let early = ltb-true (position_or_len is_unused slots) (i + 1) before in
    let here : position_or_len is_unused slots ≡ i = omega arith in
    let passes = passes_at_first is_unused slots d (omega arith) in
    absurd (true≢false (sym passes ∙ ap (λ k. is_unused (get_or slots k d)) here ∙ used)))
    (λ e. ltb-false (position_or_len is_unused slots) (i + 1) e)
    (cases_Bool (nat_lt (position_or_len is_unused slots) (i + 1)))

-- the first that is unused is found
pub first-found : (slots : List Slot) (i : ℕ) (d : Slot) → i ≤ position_or_len is_unused slots
    → is_unused (get_or slots i d) ≡ true → i ≡ position_or_len is_unused slots
first-found slots i d from unused =
    ⊎_elim (λ before. let early = ltb-true i (position_or_len is_unused slots) before in
    absurd (true≢false (sym unused ∙ fails_before_first is_unused slots i d early)))
    (λ e. let late = ltb-false i (position_or_len is_unused slots) e in omega arith)
    (cases_Bool (nat_lt i (position_or_len is_unused slots)))

-- or none is
pub first-none : (slots : List Slot) (i : ℕ) → length slots ≤ i → i ≤ position_or_len is_unused slots → length slots ≡ position_or_len is_unused slots
first-none slots i past from = let least = first_within slots in omega arith

-- One slot in the place of another.

-- an unused slot may come to be the first, any other slot leaves the search where it was
pub first-after_set : (slots : List Slot) (i : ℕ) (s : Slot) (from : ℕ) → from ≤ position_or_len is_unused slots
    → (is_unused s ≡ true → from ≤ i) → from ≤ position_or_len is_unused (set slots i s)
first-after_set slots i s from before first =
    let least = first_within slots in
    let long = length-set slots i s in
    first-from (set slots i s) from (omega arith)
    (λ k below. ⊎_elim (λ same. let within : i < length slots = omega arith in
    let here : get_or (set slots i s) k Unused ≡ s = ap (λ j. get_or (set slots i s) j Unused) same ∙ get_or-set_same slots i s Unused within in
    ap is_unused here
    ∙ ⊎_elim (λ unused. let late = first unused in absurd (omega arith)) (λ used. used) (cases_Bool (is_unused s)))
    (λ other. rw (get_or-set_other slots i k s Unused other) (fails_before_first is_unused slots k Unused (omega arith)))
    (same_or_other k i))

-- A new slot.

unused-takes_none : (s : Slot) → is_unused s ≡ true → bytes_taken s ≡ 0
unused-takes_none Unused e = refl
unused-takes_none (Normal t) e = absurd (cc e)
unused-takes_none (Redirect target) e = refl
unused-takes_none Dead e = refl

-- what is added in the place of the first unused slot leaves the next one after it
pub first-after_added : (slots : List Slot) (s : Slot) → is_unused s ≡ false
    → position_or_len is_unused slots + 1 ≤ position_or_len is_unused (with_added slots s)
first-after_added slots s used =
    ⊎_elim (λ some. let within = ltb-true (position_or_len is_unused slots) (length slots) some in
    let long = length-set slots (position_or_len is_unused slots) s in
    let from = first-after_set slots (position_or_len is_unused slots) s (position_or_len is_unused slots) (omega arith) (λ e. omega arith) in
    rw some (first-passed (set slots (position_or_len is_unused slots) s) (position_or_len is_unused slots) Unused from (omega arith)
    (rw (get_or-set_same slots (position_or_len is_unused slots) s Unused within) used)))
    (λ none. let least = first_within slots in
    let most = ltb-false (position_or_len is_unused slots) (length slots) none in
    let last : position_or_len is_unused slots ≡ length slots = omega arith in
    rw (none, position_or_len_push is_unused slots s, eq-eqb (position_or_len is_unused slots) (length slots) last, used) (omega arith))
    (cases_Bool (has_unused slots))

-- and the versions take its bytes more
pub taken-after_added : (slots : List Slot) (s : Slot) → sum_by bytes_taken (with_added slots s) ≡ sum_by bytes_taken slots + bytes_taken s
taken-after_added slots s =
    ⊎_elim (λ some. let within = ltb-true (position_or_len is_unused slots) (length slots) some in
    let sum = sum_by-set bytes_taken slots (position_or_len is_unused slots) s Unused within in
    let old = unused-takes_none (get_or slots (position_or_len is_unused slots) Unused) (passes_at_first is_unused slots Unused within) in
    rw some (omega arith))
    (λ none. rw none (sum_by_push bytes_taken slots s))
    (cases_Bool (has_unused slots))
