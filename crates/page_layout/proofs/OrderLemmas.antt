-- Of two numbers, which comes first.
use Rattle.std.proofs.Common.{◌≡◌, ◌≢◌, ⊎_elim, inl, inr, ◌⊎◌, ℕ, ◌+◌, ◌<◌, ◌≤◌, ◌==◌, nat_lt, sym, ◌∙◌, arith, eq-eqb}
use Rattle.std.proofs.lemmas.Bool.{cases_Bool, true≢false, ltb-true, ltb-false, eqb-true}

pub before_or_not : (a b : ℕ) → (a < b) ⊎ (b ≤ a)
before_or_not a b = ⊎_elim (λ t. inl (ltb-true a b t)) (λ t. inr (ltb-false a b t)) (cases_Bool (nat_lt a b))

pub last_or_before : (j i : ℕ) → j < i + 1 → (j ≡ i) ⊎ (j < i)
last_or_before j i h = ⊎_elim (λ t. inr t) (λ t. inl (omega arith)) (before_or_not j i)

pub same_or_other : (m n : ℕ) → (m ≡ n) ⊎ (m ≢ n)
same_or_other m n = ⊎_elim (λ e. inl (eqb-true m n e)) (λ e. inr (λ same. true≢false (sym (eq-eqb m n same) ∙ e))) (cases_Bool (m == n))

pub below_or_last : (j count : ℕ) → j < count + 1 → j ≢ count → j < count
below_or_last j count h other = ⊎_elim (λ e. absurd (other e)) (λ below. below) (last_or_before j count h)
