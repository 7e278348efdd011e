-- The order of ids on the circle, by arithmetic.
use Rattle.std.proofs.Common.{◌≡◌, ℕ, zero, suc, pos, ◌+◌, ◌-◌, ◌^◌, ◌<◌, ◌≤◌, ◌<ℤ◌, ◌⊎◌, ◌↔◌, arith, inl, inr, ⊎_elim}
use Rattle.std.proofs.lemmas.Bool.Decides.{nat_tests}
use Rattle.std.proofs.lemmas.Int.{ints}
use Rattle.std.specs.Int.{w32, cast_signed}
use Rattle.xid_circle.specs.Circle.{distance_of, IsNormal, next_of, Precedes, given}

negative-from_far : (n : ℕ) → n < 2 ^ 32 → 2 ^ 31 ≤ n → cast_signed w32 n <ℤ pos 0
negative-from_far n fits far = grind (arith, ints, nat_tests)

far-from_negative : (n : ℕ) → n < 2 ^ 32 → cast_signed w32 n <ℤ pos 0 → 2 ^ 31 ≤ n
far-from_negative n fits h = grind (arith, ints, nat_tests)

pub distance-lt : (from to : ℕ) → distance_of from to < 2 ^ 32
distance-lt from to = omega arith

-- Precedence by distance: a stands before b where the way up from b to a is at least half of the circle.
pub precedes-from_far : (a b : ℕ) → 2 ^ 31 ≤ distance_of b a → Precedes a b
precedes-from_far a b far = negative-from_far (distance_of b a) (distance-lt b a) far

pub far-from_precedes : (a b : ℕ) → Precedes a b → 2 ^ 31 ≤ distance_of b a
far-from_precedes a b h = far-from_negative (distance_of b a) (distance-lt b a) h

-- Seen from one id, of two others less than half of the circle away that precedes which is nearer.
nearer-far : (base a b : ℕ) → base < 2 ^ 32 → a < 2 ^ 32 → b < 2 ^ 32 → distance_of base a < 2 ^ 31 → distance_of base b < 2 ^ 31
    → distance_of base a < distance_of base b → 2 ^ 31 ≤ distance_of b a
nearer-far base a b fits fits_a fits_b near_a near_b h = omega arith

far-nearer : (base a b : ℕ) → base < 2 ^ 32 → a < 2 ^ 32 → b < 2 ^ 32 → distance_of base a < 2 ^ 31 → distance_of base b < 2 ^ 31
    → 2 ^ 31 ≤ distance_of b a → distance_of base a < distance_of base b
far-nearer base a b fits fits_a fits_b near_a near_b h = omega arith

pub precedes-by_distance : (base a b : ℕ) → base < 2 ^ 32 → a < 2 ^ 32 → b < 2 ^ 32 → distance_of base a < 2 ^ 31 → distance_of base b < 2 ^ 31
    → (Precedes a b ↔ (distance_of base a < distance_of base b))
precedes-by_distance base a b fits fits_a fits_b near_a near_b = (
  λ h. far-nearer base a b fits fits_a fits_b near_a near_b (far-from_precedes a b h),
  λ h. precedes-from_far a b (nearer-far base a b fits fits_a fits_b near_a near_b h),
)

-- where the id stands after n turns: before the wrap, or three further after it
unfoldable pub Stands : ℕ → ℕ → ℕ → Type 0
Stands first n x = ((first + n < 2 ^ 32) × (x ≡ first + n)) ⊎ ((2 ^ 32 ≤ first + n) × (x + 2 ^ 32 ≡ first + n + 3))

next-stands : (first n x : ℕ) → IsNormal first → first < 2 ^ 32 → n < 2 ^ 32 - 4 → Stands first n x → Stands first (suc n) (next_of x)
unfolding Stands
next-stands first n x normal fits small s = grind (arith, nat_tests)

pub given-stands : (first n : ℕ) → IsNormal first → first < 2 ^ 32 → n < 2 ^ 32 - 3 → Stands first n (given first n)
unfolding Stands
given-stands first zero normal fits small = inl (omega arith, omega arith)
given-stands first (suc n) normal fits small = next-stands first n (given first n) normal fits (omega arith) (given-stands first n normal fits (omega arith))

-- its distance is the number of turns, or three more
pub stands-distance : (first n x : ℕ) → IsNormal first → first < 2 ^ 32 → n < 2 ^ 32 - 3 → Stands first n x
    → (x < 2 ^ 32) × (((first + n < 2 ^ 32) × (distance_of first x ≡ n)) ⊎ ((2 ^ 32 ≤ first + n) × (distance_of first x ≡ n + 3)))
unfolding Stands
stands-distance first n x normal fits small s =
    ⊎_elim (λ a. (omega arith, inl (a.0, omega arith))) (λ b. (omega arith, inr (b.0, omega arith))) s

-- so of two ids that is nearer which was given first
nearer-from_earlier : (first i j : ℕ) (d e : ℕ) → ((first + i < 2 ^ 32) × (d ≡ i)) ⊎ ((2 ^ 32 ≤ first + i) × (d ≡ i + 3))
    → ((first + j < 2 ^ 32) × (e ≡ j)) ⊎ ((2 ^ 32 ≤ first + j) × (e ≡ j + 3)) → ((d < e) ↔ (i < j))
nearer-from_earlier first i j d e at_i at_j = (
  λ h. ⊎_elim (λ a. ⊎_elim (λ b. omega arith) (λ b. omega arith) at_j) (λ a. ⊎_elim (λ b. omega arith) (λ b. omega arith) at_j) at_i,
  λ h. ⊎_elim (λ a. ⊎_elim (λ b. omega arith) (λ b. omega arith) at_j) (λ a. ⊎_elim (λ b. omega arith) (λ b. omega arith) at_j) at_i,
)

pub order : (first i j : ℕ) → IsNormal first → first < 2 ^ 32 → i < 2 ^ 32 - 3 → j < 2 ^ 32 - 3
    → distance_of first (given first i) < 2 ^ 31 → distance_of first (given first j) < 2 ^ 31
    → (Precedes (given first i) (given first j) ↔ (i < j))
order first i j normal fits small_i small_j near_i near_j =
    let at_i = stands-distance first i (given first i) normal fits small_i (given-stands first i normal fits small_i) in
    let at_j = stands-distance first j (given first j) normal fits small_j (given-stands first j normal fits small_j) in
    let by_distance = precedes-by_distance first (given first i) (given first j) fits at_i.0 at_j.0 near_i near_j in
    let by_turns = nearer-from_earlier first i j _ _ at_i.1 at_j.1 in
    (λ h. by_turns.0 (by_distance.0 h), λ h. by_distance.1 (by_turns.1 h))
