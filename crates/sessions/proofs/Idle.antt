-- All open sessions have one of the places that were used so far.
use Rattle.std.proofs.Common.{◌≡◌, ℕ, ◌≤◌, zero, suc, List, [], ◌∷◌, ◌++◌, length, take, set, replicate, Option, Some, None, refl, sym, ap, ◌∙◌, arith}
use Rattle.std.proofs.lemmas.Option.{none-some}
use Rattle.sessions.specs.declared.session.Session.{Session}
use Rattle.sessions.specs.Places.{open_at, AreIdleFrom, HoldsOpen}
use Rattle.sessions.specs.Session.{owns_of, held_back, holds_back}
use Rattle.sessions.proofs.PlaceLemmas.{none-open}

-- the places behind the first
behind : (n : ℕ) (o : Option Session) (xs : List (Option Session)) → AreIdleFrom (suc n) (o ∷ xs) → AreIdleFrom n xs
behind n o xs idle = λ s le. idle (suc s) (omega (arith, le))

all-idle : (o : Option Session) (xs : List (Option Session)) → AreIdleFrom zero (o ∷ xs) → AreIdleFrom zero xs
all-idle o xs idle = λ s le. idle (suc s) (omega arith)

idle-owns : (xs : List (Option Session)) → AreIdleFrom zero xs → owns_of xs ≡ []
idle-owns [] idle = refl
idle-owns (None ∷ xs) idle = idle-owns xs (all-idle None xs idle)
idle-owns (Some e ∷ xs) idle = absurd (none-some e (sym (idle zero (omega arith))))

idle-held : (xs : List (Option Session)) → AreIdleFrom zero xs → held_back xs ≡ []
idle-held [] idle = refl
idle-held (None ∷ xs) idle = idle-held xs (all-idle None xs idle)
idle-held (Some e ∷ xs) idle = absurd (none-some e (sym (idle zero (omega arith))))

used-owns : (n : ℕ) (xs : List (Option Session)) → AreIdleFrom n xs → owns_of (take n xs) ≡ owns_of xs
used-owns zero xs idle = sym (idle-owns xs idle)
used-owns (suc n) [] idle = refl
used-owns (suc n) (None ∷ xs) idle = used-owns n xs (behind n None xs idle)
used-owns (suc n) (Some e ∷ xs) idle = ap (λ owns. e.own.ids ∷ owns) (used-owns n xs (behind n (Some e) xs idle))

used-held : (n : ℕ) (xs : List (Option Session)) → AreIdleFrom n xs → held_back (take n xs) ≡ held_back xs
used-held zero xs idle = sym (idle-held xs idle)
used-held (suc n) [] idle = refl
used-held (suc n) (None ∷ xs) idle = used-held n xs (behind n None xs idle)
used-held (suc n) (Some e ∷ xs) idle = ap (λ held. holds_back e ++ held) (used-held n xs (behind n (Some e) xs idle))

used-open : (n : ℕ) (xs : List (Option Session)) (s : ℕ) → AreIdleFrom n xs → open_at (take n xs) s ≡ open_at xs s
used-open zero xs s idle = sym (idle s (omega arith))
used-open (suc n) [] s idle = refl
used-open (suc n) (o ∷ xs) zero idle = refl
used-open (suc n) (o ∷ xs) (suc s) idle = used-open n xs s (behind n o xs idle)

used-within : (n : ℕ) (xs : List (Option Session)) → length (take n xs) ≤ length xs
used-within zero xs = omega arith
used-within (suc n) [] = omega arith
used-within (suc n) (o ∷ xs) = let le = used-within n xs in omega arith

pub Holds-used : (n : ℕ) (xs : List (Option Session)) → AreIdleFrom n xs → HoldsOpen (take n xs) xs
Holds-used n xs idle = record { within = used-within n xs; each = λ s. used-open n xs s idle; owns = used-owns n xs idle; held = used-held n xs idle }

-- places that were made idle
pub idle-new : (n : ℕ) (xs : List (Option Session)) → xs ≡ replicate n None → AreIdleFrom zero xs
idle-new n xs is = λ s le. ap (λ xs. open_at xs s) is ∙ none-open n s

-- what is there is put there
pub open-put : (xs : List (Option Session)) (s : ℕ) (o : Option Session) → open_at xs s ≡ o → set xs s o ≡ xs
open-put [] s o at = refl
open-put (p ∷ xs) zero o at = ap (λ o. o ∷ xs) (sym at)
open-put (p ∷ xs) (suc s) o at = ap (λ xs. p ∷ xs) (open-put xs s o at)
