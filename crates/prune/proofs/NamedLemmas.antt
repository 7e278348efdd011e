-- What a plan names, read into an array.
use Rattle.std.proofs.Common.{◌≡◌, ◌≢◌, ℕ, zero, suc, ◌+◌, ◌<◌, ◌==◌, List, [], ◌∷◌, length, get_or, set, drop, replicate, Option, Some, None, IsSome, arith, ⊎_elim, sym, ap, ◌∙◌, refl, subst}
use Rattle.std.proofs.lemmas.Bool.{cases_lt, cases_Bool, eqb-true, eq-eqb, cond-true, cond-false}
use Rattle.std.proofs.lemmas.List.{length-set, get_or-set_same}
use Rattle.prune_actions.specs.declared.Action.{Action}
use Rattle.prune.specs.Actions.{AreInOrder, action_of}
use Rattle.prune.specs.Named.{named_at}
use Rattle.prune.proofs.Listing.{order-none}

-- whether all are in order is left to those from `i` on
pub record IsOrderSoFar (count : ℕ) (actions : List (ℕ × Action)) (i last : ℕ) : Type 0 where
  pub to : AreInOrder count 0 actions → AreInOrder count last (drop i actions)
  pub back : AreInOrder count last (drop i actions) → AreInOrder count 0 actions

-- The array.

abbrev pub over : Option Action → Option Action → Option Action
over (Some a) old = Some a
over None old = old

pub record IsNaming (actions : List (ℕ × Action)) (named : List (Option Action)) (i : ℕ) : Type 0 where
  pub size : length named ≡ 292
  pub last : ℕ
  pub in_order : AreInOrder 291 last (drop i actions)
  pub each : (n : ℕ) → over (action_of (drop i actions) n) (named_at named n) ≡ action_of actions n

none-everywhere : (count n : ℕ) → get_or {A = Option Action} (replicate count None) n None ≡ None
none-everywhere zero n = refl
none-everywhere (suc count) zero = refl
none-everywhere (suc count) (suc n) = none-everywhere count n

over-none : (o : Option Action) → over o None ≡ o
over-none None = refl
over-none (Some a) = refl

pub naming-start : (actions : List (ℕ × Action)) (named : List (Option Action)) → named ≡ replicate {A = Option Action} 292 None → AreInOrder 291 0 actions → IsNaming actions named 0
naming-start actions named e o = record {
  size = ap length e;
  last = 0;
  in_order = o;
  each = λ n. ap (λ (xs : List (Option Action)). over (action_of actions n) (named_at xs n)) e ∙ ap (over (action_of actions n)) (none-everywhere 292 n) ∙ over-none (action_of actions n);
}

named-else : (xs : List (Option Action)) (i n : ℕ) (y : Option Action) → n ≢ i → get_or (set xs i y) n None ≡ get_or xs n None
named-else [] i n y ne = refl
named-else (x ∷ xs) zero zero y ne = absurd (ne refl)
named-else (x ∷ xs) zero (suc n) y ne = refl
named-else (x ∷ xs) (suc i) zero y ne = refl
named-else (x ∷ xs) (suc i) (suc n) y ne = named-else xs i n y (λ e. ne (ap suc e))

pub naming-step : (actions : List (ℕ × Action)) (named : List (Option Action)) (i : ℕ) (a : ℕ × Action) → IsNaming actions named i → drop i actions ≡ a ∷ drop (i + 1) actions
    → IsNaming actions (set named a.0 (Some a.1)) (i + 1)
naming-step actions named i a s prefix =
    let rest : AreInOrder 291 s.last (a ∷ drop (i + 1) actions) = subst (AreInOrder 291 s.last) prefix s.in_order in
    let le = rest.1 in
    let long = length-set named a.0 (Some a.1) in
    let size = s.size in
    let small : a.0 < length named = omega arith in
    record {
      size = long ∙ size;
      last = a.0;
      in_order = rest.2;
      each = λ n. ⊎_elim
          (λ t. let at = eqb-true a.0 n t in
          ap (λ o. over o (named_at (set named a.0 (Some a.1)) n)) (order-none 291 a.0 n (drop (i + 1) actions) rest.2 (omega arith))
          ∙ ap (λ k. named_at (set named a.0 (Some a.1)) k) (sym at) ∙ get_or-set_same named a.0 (Some a.1) None small
          ∙ sym (ap (λ o. over o (named_at named n)) (ap (λ l. action_of l n) prefix ∙ cond-true (a.0 == n) (Some a.1) (action_of (drop (i + 1) actions) n) t)) ∙ s.each n)
          (λ f. ap (over (action_of (drop (i + 1) actions) n)) (named-else named a.0 n (Some a.1) (λ e. let t = eq-eqb a.0 n (sym e) in cc))
          ∙ sym (ap (λ o. over o (named_at named n)) (ap (λ l. action_of l n) prefix ∙ cond-false (a.0 == n) (Some a.1) (action_of (drop (i + 1) actions) n) f)) ∙ s.each n)
          (cases_Bool (a.0 == n));
    }

-- Slots one after another.

-- the first so many are named
abbrev pub AreNamed : List (Option Action) → List ℕ → ℕ → Type 0
AreNamed named numbers i = (k : ℕ) → k < i → IsSome (named_at named (get_or numbers k 0))

-- what is so of the first ones, and of the next
pub so-far : (P : ℕ → Type 0) (i : ℕ) → ((k : ℕ) → k < i → P k) → P i → (k : ℕ) → k < i + 1 → P k
so-far P i f p k h = ⊎_elim (f k) (λ ge. let at : i ≡ k = omega arith in subst P at p) (cases_lt k i)
