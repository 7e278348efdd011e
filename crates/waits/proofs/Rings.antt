-- What holds along a walk from session to session, each waiting for the next.
use Rattle.std.proofs.Common.{◌≡◌, ◌≢◌, ℕ, zero, suc, ◌+◌, ◌<◌, ◌≤◌, Bool, true, false, ◌||◌, nat_eq, List, [], ◌∷◌, ◌++◌, length, Option, Some, None, sym, ap, ◌∙◌, refl, arith, length-append, subst, ◌⊎◌, inl, inr}
use Rattle.std.specs.List.{IsDistinct, list_any}
use Rattle.std.specs.Cmp.{nat_eq_equiv}
use Rattle.std.proofs.lemmas.Bool.{eq-eqb, eqb-true, or_right}
use Rattle.std.proofs.lemmas.Option.{same_Some}
use Rattle.std.proofs.lemmas.List.Folds.{list_any-append}
use Rattle.std.proofs.lemmas.Map.Keys.{IsDistinct-push}
use Rattle.std.proofs.lemmas.Map.Steps.{length-le_from_distinct_below}
use Rattle.xid_circle.specs.Following.{ReachesIn}
use Rattle.history.specs.World.{ClosesRing}

-- whether the number is one of them
abbrev pub among : ℕ → List ℕ → Bool
among n xs = list_any (nat_eq n) xs

-- from a session s is reached
abbrev pub Reached : (ℕ → Option ℕ) → ℕ → Option ℕ → Type 0
Reached waits s None = ⊥
Reached waits s (Some o) = ClosesRing waits s o

-- the sessions so far, none of which is s, and where the walk goes on
pub record Walk (waits : ℕ → Option ℕ) (s o : ℕ) (seen : List ℕ) (at : Option ℕ) : Type 0 where
  pub distinct : IsDistinct nat_eq seen
  pub others : (n : ℕ) → among n seen ≡ true → n ≢ s
  pub small : (n : ℕ) → among n seen ≡ true → n < 256
  pub at_small : (n : ℕ) → at ≡ Some n → n < 256
  pub next : (n p : ℕ) → among n seen ≡ true → waits n ≡ Some p → (among p seen ≡ true) ⊎ (at ≡ Some p)
  pub back : Reached waits s at → ClosesRing waits s o
  pub ahead : ClosesRing waits s o → (Reached waits s at)

pub walk-none : (waits : ℕ → Option ℕ) (s o : ℕ) → o < 256 → Walk waits s o [] (Some o)
unfolding IsDistinct
walk-none waits s o small = record {
  distinct = tt;
  others = λ n e. cc;
  small = λ n e. cc;
  at_small = λ n e. subst (λ m. m < 256) (same_Some o n e) small;
  next = λ n p e. cc;
  back = λ r. r;
  ahead = λ r. r;
}

among-push : (n t : ℕ) (seen : List ℕ) → among n (seen ++ t ∷ []) ≡ true → (among n seen ≡ true) ⊎ (n ≡ t)
among-push n t seen e = cases (among n seen) (nat_eq n t) refl refl (sym (list_any-append (nat_eq n) seen (t ∷ [])) ∙ e)
  where
    cases : (b c : Bool) → among n seen ≡ b → nat_eq n t ≡ c → (b || (c || false)) ≡ true → (among n seen ≡ true) ⊎ (n ≡ t)
    cases true c is_b is_c h = inl is_b
    cases false true is_b is_c h = inr (eqb-true n t is_c)
    cases false false is_b is_c h = cc

among-old : (n t : ℕ) (seen : List ℕ) → among n seen ≡ true → among n (seen ++ t ∷ []) ≡ true
among-old n t seen e = list_any-append (nat_eq n) seen (t ∷ []) ∙ ap (λ b. b || among n (t ∷ [])) e

among-new : (t : ℕ) (seen : List ℕ) → among t (seen ++ t ∷ []) ≡ true
among-new t [] = ap (λ b. b || false) (eq-eqb t t refl)
among-new t (x ∷ xs) = or_right (nat_eq t x) (among t (xs ++ t ∷ [])) (among-new t xs)

-- one session more
pub walk-more : (waits : ℕ → Option ℕ) (s o : ℕ) (seen : List ℕ) (t : ℕ) (at : Option ℕ) → Walk waits s o seen (Some t) → among t seen ≡ false → t ≢ s
    → at ≡ waits t → ((n : ℕ) → at ≡ Some n → n < 256) → Walk waits s o (seen ++ t ∷ []) at
walk-more waits s o seen t at w new ne goes small = record {
  distinct = IsDistinct-push nat_eq_equiv seen t w.distinct new;
  others = λ n e. elim (among-push n t seen e) [ inl old ↦ w.others n old | inr is ↦ (λ same. ne (sym is ∙ same)) ];
  small = λ n e. elim (among-push n t seen e) [ inl old ↦ w.small n old | inr is ↦ subst (λ m. m < 256) (sym is) (w.at_small t refl) ];
  at_small = small;
  next = λ n p e wait. elim (among-push n t seen e) [
    | inl old ↦ elim (w.next n p old wait) [
      | inl seen_p ↦ inl (among-old p t seen seen_p)
      | inr here ↦ inl (subst (λ q. among q (seen ++ t ∷ []) ≡ true) (same_Some t p here) (among-new t seen))
    ]
    | inr is ↦ inr (goes ∙ subst (λ q. waits q ≡ Some p) is wait)
  ];
  back = λ r. w.back (on at goes r);
  ahead = λ r. off at goes (w.ahead r);
}
  where
    on : (at : Option ℕ) → at ≡ waits t → Reached waits s at → ClosesRing waits s t
    on None goes r = absurd r
    on (Some p) goes r = (suc r.0, (p, sym goes, r.1))

    off : (at : Option ℕ) → at ≡ waits t → ClosesRing waits s t → Reached waits s at
    off at goes (zero, same) = absurd (ne same)
    off at goes (suc i, (p, wait, rest)) = subst (Reached waits s) (sym wait ∙ sym goes) (i, rest)

-- a walk that comes back to where it was never reaches s
never : (waits : ℕ → Option ℕ) (s o : ℕ) (seen : List ℕ) (t : ℕ) → Walk waits s o seen (Some t) → among t seen ≡ true
    → (i n : ℕ) → among n seen ≡ true → ReachesIn waits i n s → ⊥
never waits s o seen t w back zero n e same = w.others n e same
never waits s o seen t w back (suc i) n e (p, wait, rest) = elim (w.next n p e wait) [
  | inl old ↦ never waits s o seen t w back i p old rest
  | inr here ↦ never waits s o seen t w back i p (subst (λ q. among q seen ≡ true) (same_Some t p here) back) rest
]

pub walk-back : (waits : ℕ → Option ℕ) (s o : ℕ) (seen : List ℕ) (t : ℕ) → Walk waits s o seen (Some t) → among t seen ≡ true → ¬ ClosesRing waits s o
walk-back waits s o seen t w back ring = let r = w.ahead ring in never waits s o seen t w back r.0 t back r.1

-- there is room for one more
pub walk-room : (waits : ℕ → Option ℕ) (s o : ℕ) (seen : List ℕ) (t : ℕ) → Walk waits s o seen (Some t) → among t seen ≡ false → length seen < 256
walk-room waits s o seen t w new =
    let long : length (seen ++ t ∷ []) ≡ length seen + 1 = length-append seen (t ∷ []) in
    let most : length (seen ++ t ∷ []) ≤ 256 = length-le_from_distinct_below (seen ++ t ∷ []) 256 (IsDistinct-push nat_eq_equiv seen t w.distinct new)
    (λ q h. elim (among-push q t seen h) [ inl old ↦ w.small q old | inr is ↦ subst (λ m. m < 256) (sym is) (w.at_small t refl) ]) in
    omega arith

any-flip : (n : ℕ) (xs : List ℕ) → list_any (λ y. nat_eq y n) xs ≡ among n xs
any-flip n [] = refl
any-flip n (x ∷ xs) = let rest = any-flip n xs in let same = nat_eq_equiv.symm x n in cc

pub among-from_contains : (n : ℕ) (xs ys : List ℕ) (b : Bool) → ys ≡ xs → list_any (λ y. nat_eq y n) ys ≡ b → among n xs ≡ b
among-from_contains n xs ys b e h = let flip = any-flip n xs in cc
