-- The first fault that one of the first so many slots has.
use Rattle.std.proofs.Common.{◌≡◌, ℕ, zero, suc, ◌+◌, ◌<◌, ◌≤◌, Option, Some, None, ⊎_elim, sym, ap, ◌∙◌, refl, arith, add-one, subst}
use Rattle.std.specs.Option.{option_or}
use Rattle.page_layout.specs.declared.faults.PageFault.{PageFault}
use Rattle.page_layout.specs.Faults.{first_among}
use Rattle.page_layout.proofs.OrderLemmas.{below_or_last, same_or_other}

-- Of two.

pub or-none : (a b : Option PageFault) → a ≡ None → option_or a b ≡ b
or-none a b none = ap (λ (o : Option PageFault). option_or o b) none

pub or-some : (a b : Option PageFault) (fault : PageFault) → a ≡ Some fault → option_or a b ≡ Some fault
or-some a b fault found = ap (λ (o : Option PageFault). option_or o b) found

pub none-some : (fault : PageFault) → None ≡ Some fault → ⊥
none-some fault e = absurd (cc)

-- where neither is there
pub both-none : (a b : Option PageFault) → option_or a b ≡ None → (a ≡ None) × (b ≡ None)
both-none None b none = (refl, none)
both-none (Some fault) b none = absurd (none-some fault (sym none))

-- Of many.

pub first-more : (fault : ℕ → Option PageFault) (n : ℕ) → first_among fault n ≡ None → first_among fault (n + 1) ≡ fault n
first-more fault n none = rw add-one (or-none (first_among fault n) (fault n) none)

-- what is found early stays
first-stays : (fault : ℕ → Option PageFault) (n count : ℕ) (x : PageFault) → n ≤ count → first_among fault n ≡ Some x → first_among fault count ≡ Some x
first-stays fault n zero x within found = let e : n ≡ 0 = omega arith in subst (λ (k : ℕ). first_among fault k ≡ Some x) e found
first-stays fault n (suc m) x within found =
    ⊎_elim (λ same. subst (λ (k : ℕ). first_among fault k ≡ Some x) same found)
    (λ other. or-some (first_among fault m) (fault m) x (first-stays fault n m x (omega (arith, other)) found))
    (same_or_other n (suc m))

-- the first of all is found where none was before
pub first-found : (fault : ℕ → Option PageFault) (n count : ℕ) (x : PageFault) → n < count → first_among fault n ≡ None → fault n ≡ Some x
    → first_among fault count ≡ Some x
first-found fault n count x within none found =
    first-stays fault (n + 1) count x (omega arith) (first-more fault n none ∙ found)

-- where there is none, no slot has one
pub none-each : (fault : ℕ → Option PageFault) (count : ℕ) → first_among fault count ≡ None → (i : ℕ) → i < count → fault i ≡ None
none-each fault zero none i within = absurd (omega arith)
none-each fault (suc n) none i within =
    let both = both-none (first_among fault n) (fault n) none in
    ⊎_elim (λ same. ap fault same ∙ both.1)
    (λ other. none-each fault n both.0 i (below_or_last i n (omega arith) other))
    (same_or_other i n)

pub each-none : (fault : ℕ → Option PageFault) (count : ℕ) → ((i : ℕ) → i < count → fault i ≡ None) → first_among fault count ≡ None
each-none fault zero each = refl
each-none fault (suc n) each =
    or-none (first_among fault n) (fault n) (each-none fault n (λ i h. each i (omega arith))) ∙ each n (omega arith)
