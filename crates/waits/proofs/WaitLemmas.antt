-- What a change of the list makes of the waits.
use Rattle.std.proofs.Common.{◌≡◌, ℕ, zero, suc, ◌<◌, ◌≤◌, List, [], ◌∷◌, length, set, map, Option, None, Bool, cond, nat_eq, refl, sym, ap, ◌∙◌, subst, inl, inr, get_or, replicate}
use Rattle.std.specs.Option.{option_flatten}
use Rattle.std.proofs.lemmas.Bool.{cases_eq, cases_lt}
use Rattle.std.proofs.lemmas.List.{set_past}
use Rattle.std.proofs.lemmas.Option.{slice_get_past}
use Rattle.history.specs.Cursors.{kept_where}
use Rattle.history.proofs.Places.{slice_get-set_same, slice_get-set_other}
use Rattle.history.proofs.HistoryLemmas.{at_same, at_other}
use Rattle.waits.specs.View.{wait_in}

pub wait_in-set : (waits : List (Option ℕ)) (s : ℕ) (x : Option ℕ) → s < length waits → (t : ℕ) → wait_in (set waits s x) t ≡ cond (nat_eq t s) x (wait_in waits t)
wait_in-set waits s x within t = elim (cases_eq t s) [
  | inl same ↦ subst (λ u. wait_in (set waits s x) u ≡ cond (nat_eq u s) x (wait_in waits u)) (sym same)
      (ap option_flatten (slice_get-set_same waits s x within) ∙ sym (at_same s x (wait_in waits s)))
  | inr ne ↦ ap option_flatten (slice_get-set_other waits s t x ne) ∙ sym (at_other t s x (wait_in waits t) ne)
]

pub get_or_twice : {A : Type 0} (xs : List A) (i : ℕ) (d : A) → get_or xs i d ≡ get_or xs i (get_or xs i d)
get_or_twice [] i d = refl
get_or_twice (x ∷ xs) zero d = refl
get_or_twice (x ∷ xs) (suc i) d = get_or_twice xs i d

-- who has no place waits for nobody
pub set_beyond : (waits : List (Option ℕ)) (s : ℕ) (x : Option ℕ) → length waits ≤ s → waits ≡ set waits s x
set_beyond waits s x past = sym (set_past waits s x past)

-- a wait ends, also of a session that has no place
pub wait_in-ended : (waits : List (Option ℕ)) (s t : ℕ) → wait_in (set waits s None) t ≡ cond (nat_eq t s) None (wait_in waits t)
wait_in-ended waits s t = elim (cases_lt s (length waits)) [
  | inl within ↦ wait_in-set waits s None within t
  | inr past ↦ ap (λ xs. wait_in xs t) (set_past waits s None past) ∙ elim (cases_eq t s) [
    | inl same ↦ (let none : wait_in waits s ≡ None = ap option_flatten (slice_get_past waits s past) in
        subst (λ u. wait_in waits u ≡ cond (nat_eq u s) None (wait_in waits u)) (sym same) (none ∙ sym (at_same s None (wait_in waits s))))
    | inr ne ↦ sym (at_other t s None (wait_in waits t) ne)
  ]
]

-- waits of some kind end
pub wait_in-kept : (p : ℕ → Bool) (waits : List (Option ℕ)) (t : ℕ) → wait_in (map (kept_where p) waits) t ≡ kept_where p (wait_in waits t)
wait_in-kept p [] t = refl
wait_in-kept p (x ∷ waits) zero = refl
wait_in-kept p (x ∷ waits) (suc t) = wait_in-kept p waits t

-- nobody waits at first
pub nobody_waits : (count s : ℕ) → wait_in (replicate count None) s ≡ None
nobody_waits zero s = refl
nobody_waits (suc count) zero = refl
nobody_waits (suc count) (suc s) = nobody_waits count s

-- where nobody waits, no wait ends
pub set-quiet : (count s : ℕ) → set (replicate {A = Option ℕ} count None) s None ≡ replicate count None
set-quiet zero s = refl
set-quiet (suc count) zero = refl
set-quiet (suc count) (suc s) = ap (λ waits. None ∷ waits) (set-quiet count s)
