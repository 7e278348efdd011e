-- A number with its sign is read just where it is written so.
use Rattle.std.proofs.Common.{◌≡◌, ℕ, ℤ, pos, negsuc, ◌-◌, ◌^◌, ◌<◌, suc, List, [], ◌∷◌, ◌++◌, drop, get_or, refl, ap, ◌∙◌, sym, arith, Some, Bool, true, false, eqb}
use Rattle.std.specs.Int.{w64, w128}
use Rattle.std.specs.Prelude.{FitsSigned}
use Rattle.std.specs.Fmt.{decimal, signed_decimal}
use Rattle.std.proofs.lemmas.Option.{same_Some}
use Rattle.std.proofs.lemmas.Bool.Decides.{nat_tests}
use Rattle.std.proofs.lemmas.Int.{ints}
use Rattle.script_text.specs.Reading.{cut, number_of, signed_of, signed_then, column_then, bound_of, bound_then}
use Rattle.script_text.proofs.ByteLemmas.{Free}
use Rattle.script_text.proofs.NumberLaws.{unguarded, bound, mapped, cut_says, cut-free, number_of_says, number_of-decimal, decimal_free}

-- below top, and not below - top
abbrev pub IsWithin : ℕ → ℤ → Type 0
IsWithin top (pos n) = n < top
IsWithin top (negsuc n) = n < top

minus_first : (w : List ℕ) → eqb (get_or w 0 0) 45 ≡ true → get_or w 0 0 ≡ 45
minus_first w e = grind (arith, nat_tests)

front_is : (w : List ℕ) (x : ℕ) → get_or w 0 0 ≡ suc x → w ≡ suc x ∷ drop 1 w
front_is [] x e = cc
front_is (y ∷ ys) x e = ap (λ v. v ∷ ys) e

signed_cases : (top : ℕ) (w : List ℕ) (z : ℤ) (t : Bool) → 0 < top → top < 10 ^ 64 → eqb (get_or w 0 0) 45 ≡ t → signed_of top w ≡ Some z → (w ≡ signed_decimal z) × IsWithin top z
unfolding signed_of
signed_cases top w z true some small e h =
    let h' = rw e at h in
    let n = bound (number_of top (drop 1 w)) _ z h' in
    let says = number_of_says top (drop 1 w) n.0 small n.1 in
    let g = unguarded (eqb n.0 0) (Some (negsuc (n.0 - 1))) z n.2 in
    let more : 0 < n.0 = let e = g.0 in grind (arith, nat_tests) in
    let back : suc (n.0 - 1) ≡ n.0 = omega arith in
    let z_is = same_Some (negsuc (n.0 - 1)) z g.1 in
    let text : w ≡ 45 ∷ drop 1 w = front_is w 44 (minus_first w e) in
    rw (← z_is) (text ∙ ap (λ r. 45 ∷ r) (says.0 ∙ ap decimal (sym back)), omega (arith, says.1))
signed_cases top w z false some small e h =
    let h' = rw e at h in
    let n = mapped (number_of (top - 1) w) (λ n. pos n) z h' in
    let says = number_of_says (top - 1) w n.0 (omega arith) n.1 in
    rw (← n.2) (says.0, omega (arith, says.1))

signed_of_says : (top : ℕ) (w : List ℕ) (z : ℤ) → 0 < top → top < 10 ^ 64 → signed_of top w ≡ Some z → (w ≡ signed_decimal z) × IsWithin top z
signed_of_says top w z some small h = signed_cases top w z (eqb (get_or w 0 0) 45) some small refl h

free_head : (xs : List ℕ) → Free 45 xs → eqb (get_or xs 0 0) 45 ≡ false
free_head [] h = refl
free_head (b ∷ bs) h = h.0

not_minus : (n : ℕ) → n < 10 ^ 64 → eqb (get_or (decimal n) 0 0) 45 ≡ false
not_minus n fits = free_head (decimal n) (decimal_free 45 n (omega arith) fits)

signed_of-decimal : (top : ℕ) (z : ℤ) → top < 10 ^ 64 → IsWithin top z → signed_of top (signed_decimal z) ≡ Some z
unfolding signed_of
signed_of-decimal top (pos n) small h =
    let plus = not_minus n (omega arith) in
    rw (plus, number_of-decimal (top - 1) n (omega arith) (omega arith)) refl
signed_of-decimal top (negsuc n) small h =
    let some : eqb (suc n) 0 ≡ false = grind (arith, nat_tests) in
    let back : suc n - 1 ≡ n = omega arith in
    rw (number_of-decimal top (suc n) (omega arith) (omega arith)) (rw (some, back) refl)

signed_free_within : (top x : ℕ) (z : ℤ) → x < 45 → top < 10 ^ 64 → IsWithin top z → Free x (signed_decimal z)
signed_free_within top x (pos n) low small h = decimal_free x n (omega arith) (omega arith)
signed_free_within top x (negsuc n) low small h =
    let far : eqb 45 x ≡ false = grind (arith, nat_tests) in
    (far, decimal_free x (suc n) (omega arith) (omega arith))

signed_then_says : (top : ℕ) (xs : List ℕ) (z : ℤ) (rest : List ℕ) → 0 < top → top < 10 ^ 64 → signed_then top xs ≡ Some (z, rest) → (xs ≡ signed_decimal z ++ 32 ∷ rest) × IsWithin top z
unfolding signed_then
signed_then_says top xs z rest some small h =
    let p = bound (cut xs) _ _ h in
    let k = bound (signed_of top p.0.0) _ _ p.2 in
    let says = signed_of_says top p.0.0 k.0 some small k.1 in
    let same = same_Some _ _ k.2 in
    let z_is : k.0 ≡ z = ap (λ (q : ℤ × List ℕ). q.0) same in
    let rest_is : p.0.1 ≡ rest = ap (λ (q : ℤ × List ℕ). q.1) same in
    (cut_says xs p.0.0 p.0.1 p.1 ∙ rw (says.0, z_is, rest_is) refl, rw (← z_is) says.1)

signed_then-decimal : (top : ℕ) (z : ℤ) (rest : List ℕ) → top < 10 ^ 64 → IsWithin top z → signed_then top (signed_decimal z ++ 32 ∷ rest) ≡ Some (z, rest)
unfolding signed_then
signed_then-decimal top z rest small h = rw (cut-free (signed_decimal z) rest (signed_free_within top 32 z (omega arith) small h), signed_of-decimal top z small h) refl

-- a column

within_column : (z : ℤ) → FitsSigned w64 z → IsWithin (2 ^ 63) z
within_column (pos n) h = omega (arith, ints, h)
within_column (negsuc n) h = h.sfits

column_within : (z : ℤ) → IsWithin (2 ^ 63) z → FitsSigned w64 z
column_within (pos n) h = omega arith
column_within (negsuc n) h = omega arith

pub signed_free : (x : ℕ) (z : ℤ) → x < 45 → FitsSigned w64 z → Free x (signed_decimal z)
signed_free x z low h = signed_free_within (2 ^ 63) x z low (omega arith) (within_column z h)

pub column_then_says : (xs : List ℕ) (z : ℤ) (rest : List ℕ) → column_then xs ≡ Some (z, rest) → (xs ≡ signed_decimal z ++ 32 ∷ rest) × FitsSigned w64 z
column_then_says xs z rest h = let says = signed_then_says (2 ^ 63) xs z rest (omega arith) (omega arith) h in (says.0, column_within z says.1)

pub column_then-signed : (z : ℤ) (rest : List ℕ) → FitsSigned w64 z → column_then (signed_decimal z ++ 32 ∷ rest) ≡ Some (z, rest)
column_then-signed z rest h = signed_then-decimal (2 ^ 63) z rest (omega arith) (within_column z h)

-- a bound

within_bound : (z : ℤ) → FitsSigned w128 z → IsWithin (2 ^ 127) z
within_bound (pos n) h = omega (arith, ints, h)
within_bound (negsuc n) h = h.sfits

bound_within : (z : ℤ) → IsWithin (2 ^ 127) z → FitsSigned w128 z
bound_within (pos n) h = omega arith
bound_within (negsuc n) h = omega arith

pub bound_free : (x : ℕ) (z : ℤ) → x < 45 → FitsSigned w128 z → Free x (signed_decimal z)
bound_free x z low h = signed_free_within (2 ^ 127) x z low (omega arith) (within_bound z h)

pub bound_of_says : (w : List ℕ) (z : ℤ) → bound_of w ≡ Some z → (w ≡ signed_decimal z) × FitsSigned w128 z
bound_of_says w z h = let says = signed_of_says (2 ^ 127) w z (omega arith) (omega arith) h in (says.0, bound_within z says.1)

pub bound_of-signed : (z : ℤ) → FitsSigned w128 z → bound_of (signed_decimal z) ≡ Some z
bound_of-signed z h = signed_of-decimal (2 ^ 127) z (omega arith) (within_bound z h)

pub bound_then_says : (xs : List ℕ) (z : ℤ) (rest : List ℕ) → bound_then xs ≡ Some (z, rest) → (xs ≡ signed_decimal z ++ 32 ∷ rest) × FitsSigned w128 z
bound_then_says xs z rest h = let says = signed_then_says (2 ^ 127) xs z rest (omega arith) (omega arith) h in (says.0, bound_within z says.1)

pub bound_then-signed : (z : ℤ) (rest : List ℕ) → FitsSigned w128 z → bound_then (signed_decimal z ++ 32 ∷ rest) ≡ Some (z, rest)
bound_then-signed z rest h = signed_then-decimal (2 ^ 127) z rest (omega arith) (within_bound z h)
