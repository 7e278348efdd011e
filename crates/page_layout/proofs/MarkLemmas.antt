-- Where no unit below a place is marked, those that are lie above.
use Rattle.std.proofs.Common.{◌≡◌, ℕ, zero, suc, ◌+◌, ◌<◌, ◌≤◌, Bool, false, cond, List, length, take, drop, ◌∙◌, refl, arith, add-one, length-drop}
use Rattle.std.specs.Prelude.{count_by}
use Rattle.std.proofs.lemmas.List.Sums.{sum_by-take-drop, count_by-le-length, count_by_more_no}
use Rattle.page_layout.specs.Units.{is_marked, units_marked}

none-counted : (marks : List Bool) (n : ℕ) → n ≤ length marks → ((k : ℕ) → k < n → is_marked marks k ≡ false) → count_by (λ mark. mark) (take n marks) ≡ 0
none-counted marks zero within free = refl
none-counted marks (suc n) within free =
    let last = count_by_more_no (λ (mark : Bool). mark) marks n false (omega arith) (free n (omega arith)) in
    let rest = none-counted marks n (omega arith) (λ k h. free k (omega arith)) in
    rw add-one at (last ∙ rest)

pub counted-above : (marks : List Bool) (n : ℕ) → n ≤ length marks → ((k : ℕ) → k < n → is_marked marks k ≡ false) → units_marked marks + n ≤ length marks
counted-above marks n within free =
    let below = none-counted marks n within free in
    let above = count_by-le-length (λ (mark : Bool). mark) (drop n marks) in
    let both = sum_by-take-drop (λ (x : Bool). cond x 1 0) marks n in
    let long = length-drop n marks in
    omega arith
