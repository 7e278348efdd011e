-- Numbers that are listed in order, and what is so of all others.
use Rattle.std.proofs.Common.{◌≡◌, ◌⊎◌, ℕ, suc, ◌+◌, ◌-◌, ◌<◌, ◌≤◌, List, [], ◌∷◌, length, get_or, inl, inr, arith, ⊎_elim, sym, subst}
use Rattle.std.proofs.lemmas.Bool.{cases_lt, cases_eq}
use Rattle.prune.specs.Marks.{ListsAllBut}

-- one number less to come, of which Q is so
pub gaps-before : (Q : ℕ → Type 0) (low bound : ℕ) (xs : List ℕ) → ListsAllBut Q low xs bound → Q low → ListsAllBut Q (low - 1) xs bound
gaps-before Q low bound [] l q = λ n over below. ⊎_elim (λ lt. l n lt below) (λ ge. let same : n ≡ low = omega arith in subst Q (sym same) q) (cases_lt low n)
gaps-before Q low bound (x ∷ rest) l q = (
  (let lt = l.0 in omega arith),
  l.1,
  (λ n over below. ⊎_elim (λ lt. l.2 n lt below) (λ ge. let same : n ≡ low = omega arith in subst Q (sym same) q) (cases_lt low n)),
  l.3,
)

-- one less, which is listed
pub gaps-put : (Q : ℕ → Type 0) (low bound : ℕ) (xs : List ℕ) → 1 ≤ low → low < bound → ListsAllBut Q low xs bound → ListsAllBut Q (low - 1) (low ∷ xs) bound
gaps-put Q low bound xs from lt l = ((omega arith), lt, (λ n over below. absurd (omega arith)), l)

pub gaps-map : (Q R : ℕ → Type 0) (low bound : ℕ) (xs : List ℕ) → ((n : ℕ) → Q n → R n) → ListsAllBut Q low xs bound → ListsAllBut R low xs bound
gaps-map Q R low bound [] f l = λ n over below. f n (l n over below)
gaps-map Q R low bound (x ∷ rest) f l = (l.0, l.1, (λ n over below. f n (l.2 n over below)), gaps-map Q R x bound rest f l.3)

-- a number in between is listed, or Q is so of it
pub gaps-found : (Q : ℕ → Type 0) (low bound n : ℕ) (xs : List ℕ) → ListsAllBut Q low xs bound → low < n → n < bound
    → Q n ⊎ ((k : ℕ) × (k < length xs) × (get_or xs k 0 ≡ n))
gaps-found Q low bound n [] l over below = inl (l n over below)
gaps-found Q low bound n (x ∷ rest) l over below = ⊎_elim
    (λ before. inl (l.2 n over before))
    (λ from. ⊎_elim
    (λ here. inr (0, omega arith, sym here))
    (λ past. ⊎_elim (λ q. inl q) (λ found. inr (suc found.0, (let lt = found.1 in omega arith), found.2))
    (gaps-found Q x bound n rest l.3 (omega (arith, from, past)) below))
    (cases_eq n x))
    (cases_lt n x)
