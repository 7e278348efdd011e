-- The place of an id among those given from a first one on.
use Rattle.std.proofs.Common.{◌↔◌, ◌≡◌, ℕ, zero, suc, ◌+◌, ◌-◌, ◌^◌, ◌<◌, ◌≤◌, ◌⊎◌, arith, ⊎_elim, ap, ◌∙◌}
use Rattle.std.proofs.lemmas.Bool.Decides.{nat_tests}
use Rattle.xid_circle.specs.Circle.{distance_of, IsNormal, Precedes, next_of, given}
use Rattle.xid_circle.proofs.Order as circle
use Rattle.xid_circle.proofs.Order.{Stands, given-stands, stands-distance}
use Rattle.commit_status.specs.Window.{turns}

turns-stands : (first n x : ℕ) → IsNormal first → first < 2 ^ 32 → n < 2 ^ 32 - 3 → Stands first n x → turns first x ≡ n
unfolding Stands
turns-stands first n x normal fits small s = grind (arith, nat_tests)

range-stands : (first n x : ℕ) → IsNormal first → first < 2 ^ 32 → n < 2 ^ 32 - 3 → Stands first n x → (3 ≤ x) × (x < 2 ^ 32)
unfolding Stands
range-stands first n x normal fits small s = ⊎_elim (λ a. (omega arith, omega arith)) (λ b. (omega arith, omega arith)) s

-- an id is given at its turn
pub turns-given : (first n : ℕ) → IsNormal first → first < 2 ^ 32 → n < 2 ^ 32 - 3 → turns first (given first n) ≡ n
turns-given first n normal fits small = turns-stands first n (given first n) normal fits small (given-stands first n normal fits small)

pub given-normal : (first n : ℕ) → IsNormal first → first < 2 ^ 32 → n < 2 ^ 32 - 3 → IsNormal (given first n)
given-normal first n normal fits small = (range-stands first n (given first n) normal fits small (given-stands first n normal fits small)).0

pub given-fits : (first n : ℕ) → IsNormal first → first < 2 ^ 32 → n < 2 ^ 32 - 3 → given first n < 2 ^ 32
given-fits first n normal fits small = (range-stands first n (given first n) normal fits small (given-stands first n normal fits small)).1

pub turns-lt : (first x : ℕ) → IsNormal first → first < 2 ^ 32 → IsNormal x → x < 2 ^ 32 → turns first x < 2 ^ 32 - 3
turns-lt first x normal fits id small = grind (arith, nat_tests)

stands-same : (first x y : ℕ) → IsNormal first → first < 2 ^ 32 → IsNormal x → x < 2 ^ 32 → Stands first (turns first x) y → y ≡ x
unfolding Stands
stands-same first x y normal fits id small s = grind (arith, nat_tests)

-- at the turn of an id it is given
pub given-turns : (first x : ℕ) → IsNormal first → first < 2 ^ 32 → IsNormal x → x < 2 ^ 32 → given first (turns first x) ≡ x
given-turns first x normal fits id small = stands-same first x _ normal fits id small (given-stands first (turns first x) normal fits (turns-lt first x normal fits id small))

-- turns add up
pub given-given : (first m n : ℕ) → given (given first m) n ≡ given first (m + n)
given-given first m zero = let e : m ≡ m + zero = omega arith in ap (given first) e
given-given first m (suc n) =
    let e : suc (m + n) ≡ m + suc n = omega arith in
    ap next_of (given-given first m n) ∙ ap (given first) e

-- how far an id is from the first: three more than its turns once the numbers started over
pub age-at : (first n : ℕ) → IsNormal first → first < 2 ^ 32 → n < 2 ^ 32 - 3
    → ((first + n < 2 ^ 32) × (distance_of first (given first n) ≡ n)) ⊎ ((2 ^ 32 ≤ first + n) × (distance_of first (given first n) ≡ n + 3))
age-at first n normal fits small = (stands-distance first n (given first n) normal fits small (given-stands first n normal fits small)).1

-- of two ids given less than half of the circle after one, that precedes which is given first
pub order : (first i j : ℕ) → IsNormal first → first < 2 ^ 32 → i < 2 ^ 31 - 3 → j < 2 ^ 31 - 3
    → (Precedes (given first i) (given first j) ↔ (i < j))
order first i j normal fits hi hj =
    circle.order first i j normal fits (omega arith) (omega arith)
    (near first i (distance_of first (given first i)) hi (age-at first i normal fits (omega arith)))
    (near first j (distance_of first (given first j)) hj (age-at first j normal fits (omega arith)))
  where
    near : (first i d : ℕ) → i < 2 ^ 31 - 3 → ((first + i < 2 ^ 32) × (d ≡ i)) ⊎ ((2 ^ 32 ≤ first + i) × (d ≡ i + 3)) → d < 2 ^ 31
    near first i d h s = ⊎_elim (λ a. let e = a.1 in omega arith) (λ b. let e = b.1 in omega arith) s
