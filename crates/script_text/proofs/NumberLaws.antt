-- A number is read just where it is written so.
use Rattle.std.proofs.Common.{◌≡◌, ℕ, ◌+◌, ◌-◌, ◌*◌, ◌^◌, ◌<◌, ◌≤◌, suc, zero, List, [], ◌∷◌, ◌++◌, length, get_or, refl, ap, length-append, ◌∙◌, sym, arith, Option, None, Some, position, Bool, true, false, cond, eqb, nat_lt, nat_le, ◌&&◌, ◌||◌, rules, eq-eqb, ltb-false, leb-true, le-leb, ◌⊎◌, inl, inr}
use Rattle.std.specs.Option.{option_map}
use Rattle.std.specs.Char.{is_ascii_digit}
use Rattle.std.specs.Str.{all_ascii_digits}
use Rattle.std.specs.Fmt.{decimal}
use Rattle.std.proofs.lemmas.Option.{none-some, same_Some}
use Rattle.std.proofs.lemmas.Bool.Decides.{nat_tests}
use Rattle.std.proofs.lemmas.Str.Parse.{IsNumeralModel, numerals_by_fold}
use Rattle.script_text.proofs.WideLaws.{decimal-digits_value, digits_decimal, digits_value-decimal, decimal_nonempty, first_decimal}
use Rattle.std.proofs.lemmas.Fmt.{decimal_digit}
use Rattle.std.proofs.Math.Seq.{take-append_seam, drop-append-add}
use Rattle.std.proofs.lemmas.Bool.{and_right, and_parts}
use Rattle.script_text.specs.Reading.{◌>>=◌, cut, cut_at, digits_on, number_of, number_then}
use Rattle.script_text.proofs.ByteLemmas.{Free, place-free, place-split, position_found}

pub guarded : {A : Type 0} (b : Bool) (x : Option A) (y : A) → cond b x None ≡ Some y → (b ≡ true) × (x ≡ Some y)
guarded true x y h = (refl, h)
guarded false x y h = absurd (none-some y h)

pub unguarded : {A : Type 0} (b : Bool) (x : Option A) (y : A) → cond b None x ≡ Some y → (b ≡ false) × (x ≡ Some y)
unguarded true x y h = absurd (none-some y h)
unguarded false x y h = (refl, h)

pub bound : {A B : Type 0} (o : Option A) (f : A → Option B) (y : B) → (o >>= f) ≡ Some y → (x : A) × (o ≡ Some x) × (f x ≡ Some y)
bound None f y h = absurd (none-some y h)
bound (Some x) f y h = (x, refl, h)

pub mapped : {A B : Type 0} (o : Option A) (f : A → B) (y : B) → option_map f o ≡ Some y → (x : A) × (o ≡ Some x) × (f x ≡ y)
mapped None f y h = absurd (none-some y h)
mapped (Some x) f y h = (x, refl, same_Some (f x) y h)

abbrev read_on : ℕ → List ℕ → ℕ
read_on n [] = n
read_on n (c ∷ cs) = read_on (10 * n + (c - 48)) cs

own : IsNumeralModel (λ ds. all_ascii_digits ds ≡ true) (read_on 0)
own = numerals_by_fold _ (search rules) read_on (search rules)

read_on-ge : (n : ℕ) (cs : List ℕ) → n ≤ read_on n cs
read_on-ge n [] = omega arith
read_on-ge n (c ∷ cs) = let h = read_on-ge (10 * n + (c - 48)) cs in omega arith

digits_on-some : (max n : ℕ) (cs : List ℕ) (m : ℕ) → digits_on max n cs ≡ Some m → n ≤ max → (all_ascii_digits cs ≡ true) × (read_on n cs ≡ m) × (m ≤ max)
unfolding digits_on
digits_on-some max n [] m h k = let e = same_Some n m h in (refl, e, omega arith)
digits_on-some max n (c ∷ cs) m h k =
    let g = guarded (is_ascii_digit c && nat_le (10 * n + (c - 48)) max) (digits_on max (10 * n + (c - 48)) cs) m h in
    let t = and_parts (is_ascii_digit c) (nat_le (10 * n + (c - 48)) max) g.0 in
    let small : 10 * n + (c - 48) ≤ max = leb-true (10 * n + (c - 48)) max t.1 in
    let r = digits_on-some max (10 * n + (c - 48)) cs m g.1 small in
    (rw t.0 r.0, r.1, r.2)

digits_on-read : (max n : ℕ) (cs : List ℕ) → all_ascii_digits cs ≡ true → read_on n cs ≤ max → digits_on max n cs ≡ Some (read_on n cs)
unfolding digits_on
digits_on-read max n [] h k = refl
digits_on-read max n (c ∷ cs) h k =
    let t = and_parts (is_ascii_digit c) (all_ascii_digits cs) h in
    let ge = read_on-ge (10 * n + (c - 48)) cs in
    let small : nat_le (10 * n + (c - 48)) max ≡ true = le-leb (10 * n + (c - 48)) max (omega arith) in
    rw (t.0, small) (digits_on-read max (10 * n + (c - 48)) cs t.1 k)

true-false : true ≡ false → ⊥
true-false h = cc

pos_from : (k : ℕ) → eqb k 0 ≡ false → 0 < k
pos_from k e = grind (arith, nat_tests)

by_tests_says : (k : ℕ) (z a : Bool) → eqb k 0 ≡ a → (b : Bool) → nat_lt 1 k ≡ b → (eqb k 0 || (nat_lt 1 k && z)) ≡ false → (0 < k) × (z ≡ true → k ≡ 1)
by_tests_says k z true e b f h = let h' = rw e at h in absurd (true-false h')
by_tests_says k z false e false f h = let p : 0 < k = pos_from k e in let q = ltb-false 1 k f in (p, λ t. omega arith)
by_tests_says k true false e true f h = let h' = rw (e, f) at h in absurd (true-false h')
by_tests_says k false false e true f h = let p : 0 < k = pos_from k e in (p, λ t. absurd (true-false (sym t)))

plain_says : (k : ℕ) (z : Bool) → (eqb k 0 || (nat_lt 1 k && z)) ≡ false → (0 < k) × (z ≡ true → k ≡ 1)
plain_says k z h = by_tests_says k z (eqb k 0) refl (nat_lt 1 k) refl h

plain_rest : (k : ℕ) (z : Bool) → (z ≡ true → k ≡ 1) → (nat_lt 1 k && z) ≡ false
plain_rest k true e = let one = e refl in let t : nat_lt 1 k ≡ false = grind (arith, nat_tests) in rw t refl
plain_rest k false e = and_right (nat_lt 1 k) false refl

plain_is : (k : ℕ) (z : Bool) → 0 < k → (z ≡ true → k ≡ 1) → (eqb k 0 || (nat_lt 1 k && z)) ≡ false
plain_is k z h e =
    let zero : eqb k 0 ≡ false = grind (arith, nat_tests) in
    rw zero (plain_rest k z e)

pub number_of_says : (max : ℕ) (w : List ℕ) (n : ℕ) → max < 10 ^ 64 → number_of max w ≡ Some n → (w ≡ decimal n) × (n ≤ max)
unfolding number_of
number_of_says max w n fits h =
    let g = unguarded _ _ n h in
    let p = plain_says (length w) (eqb (get_or w 0 0) 48) g.0 in
    let d = digits_on-some max 0 w n g.1 (omega arith) in
    let value : decimal (read_on 0 w) ≡ w = decimal-digits_value own w d.0 p.0 (λ e. p.1 (eq-eqb (get_or w 0 0) 48 e)) (omega (arith, d.1, d.2)) in
    (sym value ∙ ap decimal d.1, d.2)

zero_or : (n : ℕ) → (n ≡ 0) ⊎ (0 < n)
zero_or zero = inl refl
zero_or (suc n) = inr (omega arith)

first_cases : (n : ℕ) → n < 10 ^ 64 → eqb (get_or (decimal n) 0 0) 48 ≡ true → length (decimal n) ≡ 1
first_cases n fits e =
    let f : get_or (decimal n) 0 0 ≡ 48 = grind (arith, nat_tests) in
    elim (zero_or n) [
      | inl z ↦ let d = decimal_digit n (omega arith) in ap (λ (xs : List ℕ). length xs) d
      | inr p ↦ let k = first_decimal n p fits in absurd (omega arith)
    ]

pub number_of-decimal : (max n : ℕ) → n ≤ max → max < 10 ^ 64 → number_of max (decimal n) ≡ Some n
unfolding number_of
number_of-decimal max n small fits =
    let plain = plain_is (length (decimal n)) (eqb (get_or (decimal n) 0 0) 48) (decimal_nonempty n (omega arith)) (first_cases n (omega arith)) in
    let value = digits_value-decimal own n (omega arith) in
    rw plain (digits_on-read max 0 (decimal n) (digits_decimal own n (omega arith)) (rw value small) ∙ ap (λ x. Some x) value)

position-free : (x : ℕ) (w rest : List ℕ) → Free x w → position (λ b. eqb b x) (w ++ x ∷ rest) ≡ Some (length w)
position-free x w rest h =
    let e = place-free x w rest h in
    let size = length-append w (x ∷ rest) in
    let inside : nat_lt (length w) (length (w ++ x ∷ rest)) ≡ true = grind (arith, nat_tests) in
    rw (e, inside) refl

pub cut_at_says : (x : ℕ) (xs w rest : List ℕ) → cut_at x xs ≡ Some (w, rest) → xs ≡ w ++ x ∷ rest
cut_at_says x xs w rest h =
    let m = mapped _ _ _ h in
    let f = position_found x xs m.0 m.1 in
    let s = rw f.1 at (place-split x xs (rw f.1 f.0)) in
    s ∙ ap (λ (p : List ℕ × List ℕ). p.0 ++ x ∷ p.1) m.2

pub cut_says : (xs w rest : List ℕ) → cut xs ≡ Some (w, rest) → xs ≡ w ++ 32 ∷ rest
cut_says xs w rest h = cut_at_says 32 xs w rest h

pub cut_at-free : (x : ℕ) (w rest : List ℕ) → Free x w → cut_at x (w ++ x ∷ rest) ≡ Some (w, rest)
cut_at-free x w rest h = rw (position-free x w rest h, take-append_seam w (x ∷ rest), drop-append-add w (x ∷ rest) 1) refl

pub cut-free : (w rest : List ℕ) → Free 32 w → cut (w ++ 32 ∷ rest) ≡ Some (w, rest)
cut-free w rest h = cut_at-free 32 w rest h

digits_free : (x : ℕ) (ds : List ℕ) → (x < 48) → all_ascii_digits ds ≡ true → Free x ds
digits_free x [] low h = tt
digits_free x (c ∷ cs) low h =
    let t = and_parts (is_ascii_digit c) (all_ascii_digits cs) h in
    let d = t.0 in
    let far : eqb c x ≡ false = grind (arith, nat_tests, d) in
    (far, digits_free x cs low t.1)

pub decimal_free : (x n : ℕ) → x < 48 → n < 10 ^ 64 → Free x (decimal n)
decimal_free x n low fits = digits_free x (decimal n) low (digits_decimal own n fits)

digits_free_past : (x : ℕ) (ds : List ℕ) → 57 < x → all_ascii_digits ds ≡ true → Free x ds
digits_free_past x [] high h = tt
digits_free_past x (c ∷ cs) high h =
    let t = and_parts (is_ascii_digit c) (all_ascii_digits cs) h in
    let d = t.0 in
    let far : eqb c x ≡ false = grind (arith, nat_tests, d) in
    (far, digits_free_past x cs high t.1)

pub decimal_free_past : (x n : ℕ) → 57 < x → n < 10 ^ 64 → Free x (decimal n)
decimal_free_past x n high fits = digits_free_past x (decimal n) high (digits_decimal own n fits)

pub number_then_says : (max : ℕ) (xs : List ℕ) (n : ℕ) (rest : List ℕ) → max < 10 ^ 64 → number_then max xs ≡ Some (n, rest) → (xs ≡ decimal n ++ 32 ∷ rest) × (n ≤ max)
unfolding number_then
number_then_says max xs n rest fits h =
    let p = bound _ _ _ h in
    let k = bound _ _ _ p.2 in
    let says = number_of_says max p.0.0 k.0 fits k.1 in
    let same = same_Some _ _ k.2 in
    let n_is : k.0 ≡ n = ap (λ (q : ℕ × List ℕ). q.0) same in
    let rest_is : p.0.1 ≡ rest = ap (λ (q : ℕ × List ℕ). q.1) same in
    (cut_says xs p.0.0 p.0.1 p.1 ∙ rw (says.0, n_is, rest_is) refl, rw (← n_is) says.1)

pub number_then-decimal : (max n : ℕ) (rest : List ℕ) → n ≤ max → max < 10 ^ 64 → number_then max (decimal n ++ 32 ∷ rest) ≡ Some (n, rest)
unfolding number_then
number_then-decimal max n rest small fits = rw (cut-free (decimal n) rest (decimal_free 32 n (omega arith) (omega arith)), number_of-decimal max n small fits) refl
