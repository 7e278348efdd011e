-- The first place of a byte.
use Rattle.std.proofs.Common.{◌≡◌, ℕ, ◌+◌, ◌<◌, ◌≤◌, suc, List, [], ◌∷◌, ◌++◌, length, take, drop, refl, ap, sym, arith, None, Some, position, Bool, true, false, cond, eqb, eq-eqb, nat_lt, ltb-false, add-one}
use borrow.Author.Tests.{ltb-true}
use Rattle.std.specs.List.{position_or_len}
use Rattle.std.proofs.lemmas.Option.{none-some, cond_some}
use Rattle.std.proofs.lemmas.Bool.Decides.{nat_tests}

abbrev pub place : ℕ → List ℕ → ℕ
place x xs = position_or_len (λ b. eqb b x) xs

abbrev pub Free : ℕ → List ℕ → Type 0
Free x [] = Unit {0}
Free x (b ∷ bs) = (eqb b x ≡ false) × Free x bs

-- whether a byte is not in a text
abbrev pub lacks : ℕ → List ℕ → Bool
lacks x [] = true
lacks x (b ∷ bs) = cond (eqb b x) false (lacks x bs)

lacking : (x b : ℕ) (bs : List ℕ) (t : Bool) → eqb b x ≡ t → cond (eqb b x) false (lacks x bs) ≡ true → (eqb b x ≡ false) × (lacks x bs ≡ true)
lacking x b bs true e h = absurd (let h' = rw e at h in cc h')
lacking x b bs false e h = let h' = rw e at h in (e, h')

pub free_text : (x : ℕ) (xs : List ℕ) → lacks x xs ≡ true → Free x xs
free_text x [] h = tt
free_text x (b ∷ bs) h = let k = lacking x b bs (eqb b x) refl h in (k.0, free_text x bs k.1)

pub Free-append : (x : ℕ) (xs ys : List ℕ) → Free x xs → Free x ys → Free x (xs ++ ys)
Free-append x [] ys h k = k
Free-append x (b ∷ bs) ys h k = (h.0, Free-append x bs ys h.1 k)

pub place-free : (x : ℕ) (xs ys : List ℕ) → Free x xs → place x (xs ++ x ∷ ys) ≡ length xs
place-free x [] ys h = rw (eq-eqb x x refl) refl
place-free x (b ∷ bs) ys h = rw (h.0, place-free x bs ys h.1) (omega arith)

found_step : (x b : ℕ) (bs ys : List ℕ) (t : Bool) → eqb b x ≡ t → (place x bs < length bs → place x (bs ++ ys) ≡ place x bs)
    → place x (b ∷ bs) < suc (length bs) → place x (b ∷ (bs ++ ys)) ≡ place x (b ∷ bs)
found_step x b bs ys true e ih h = rw e refl
found_step x b bs ys false e ih h = let h' = rw e at h in rw e (ap (λ k. 1 + k) (ih (omega arith)))

pub place-append_found : (x : ℕ) (xs ys : List ℕ) → place x xs < length xs → place x (xs ++ ys) ≡ place x xs
place-append_found x [] ys h = absurd (omega arith)
place-append_found x (b ∷ bs) ys h = found_step x b bs ys (eqb b x) refl (place-append_found x bs ys) h

past_step : (x b : ℕ) (bs ys : List ℕ) (t : Bool) → eqb b x ≡ t → (length bs ≤ place x bs → length bs ≤ place x (bs ++ ys))
    → suc (length bs) ≤ place x (b ∷ bs) → suc (length bs) ≤ place x (b ∷ (bs ++ ys))
past_step x b bs ys true e ih h = let h' = rw e at h in absurd (omega arith)
past_step x b bs ys false e ih h = let h' = rw e at h in let k = ih (omega arith) in rw e (omega arith)

pub place-append_past : (x : ℕ) (xs ys : List ℕ) → length xs ≤ place x xs → length xs ≤ place x (xs ++ ys)
place-append_past x [] ys h = omega arith
place-append_past x (b ∷ bs) ys h = past_step x b bs ys (eqb b x) refl (place-append_past x bs ys) h

pub position_found : (x : ℕ) (xs : List ℕ) (n : ℕ) → position (λ b. eqb b x) xs ≡ Some n → (n < length xs) × (place x xs ≡ n)
position_found x xs n h =
    let p = cond_some (nat_lt (place x xs) (length xs)) (place x xs) n h in
    (rw (← p.1) (ltb-true (place x xs) (length xs) p.0), p.1)

by_lt : (m n : ℕ) (t : Bool) → nat_lt m n ≡ t → cond (nat_lt m n) (Some m) None ≡ None → n ≤ m
by_lt m n true e h = let h' = rw e at h in absurd (none-some m (sym h'))
by_lt m n false e h = ltb-false m n e

none_step : (m n : ℕ) → cond (nat_lt m n) (Some m) None ≡ None → n ≤ m
none_step m n h = by_lt m n (nat_lt m n) refl h

pub position_none : (x : ℕ) (xs : List ℕ) → position (λ b. eqb b x) xs ≡ None → length xs ≤ place x xs
position_none x xs h = none_step (place x xs) (length xs) h

split_step : (x b : ℕ) (bs : List ℕ) (t : Bool) → eqb b x ≡ t → (place x bs < length bs → bs ≡ take (place x bs) bs ++ x ∷ drop (place x bs + 1) bs)
    → place x (b ∷ bs) < suc (length bs) → b ∷ bs ≡ take (place x (b ∷ bs)) (b ∷ bs) ++ x ∷ drop (place x (b ∷ bs) + 1) (b ∷ bs)
split_step x b bs true e ih h =
    let same : b ≡ x = grind (arith, nat_tests) in
    rw e (ap (λ y. y ∷ bs) same)
split_step x b bs false e ih h =
    let h' = rw e at h in
    let one : 1 + place x bs ≡ suc (place x bs) = omega arith in
    let two : suc (place x bs) + 1 ≡ suc (suc (place x bs)) = omega arith in
    let rest = rw add-one at (ih (omega arith)) in
    rw (e, one, two) (ap (λ r. b ∷ r) rest)

-- the byte at the first place, between what stands before it and behind it
pub place-split : (x : ℕ) (xs : List ℕ) → place x xs < length xs → xs ≡ take (place x xs) xs ++ x ∷ drop (place x xs + 1) xs
place-split x [] h = absurd (omega arith)
place-split x (b ∷ bs) h = split_step x b bs (eqb b x) refl (place-split x bs) h
