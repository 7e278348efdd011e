-- The earliest of several ids.
use Rattle.std.proofs.Common.{◌≡◌, ℕ, ◌<◌, ◌≤◌, ◌⊎◌, Bool, true, false, List, [], ◌∷◌, arith, inl, inr, ⊎_elim, refl, sym, ◌∙◌, subst}
use Rattle.std.specs.List.{Contains}
use Rattle.std.proofs.lemmas.Bool.{cases_lt, cases_Bool, leb-true, le-leb}
use Rattle.xid_circle.specs.Circle.{Precedes}
use Rattle.commit_status.specs.Window.{Window, IsWindow, IsUpToNext, turns}
use Rattle.xid_circle.proofs.Order.{precedes-from_far, far-from_precedes}
use Rattle.xid_circle.proofs.Members.{Contains-first, Contains-rest, Contains-cases, Contains-none}
use Rattle.commit_status.proofs.Places.{precedes-turns}
use Rattle.snapshot.specs.Snap.{is_before, earlier, earliest}
use Rattle.snapshot.specs.Laws.{IsEarliest}

pub before-precedes : (a b : ℕ) → is_before a b ≡ true → Precedes a b
before-precedes a b h = precedes-from_far a b (leb-true _ _ h)

pub precedes-before : (a b : ℕ) → Precedes a b → is_before a b ≡ true
precedes-before a b h = le-leb _ _ (far-from_precedes a b h)

pub precedes-or-not : (a b : ℕ) → Precedes a b ⊎ (¬ Precedes a b)
precedes-or-not a b = elim (cases_Bool (is_before a b)) [
  | inl before ↦ inl (before-precedes a b before)
  | inr after ↦ inr (λ p. let e = precedes-before a b p in cc)
]

-- of two ids the earlier is one of them, and no later than either
pub earlier-cases : (a b : ℕ) → ((is_before b a ≡ true) × (earlier a b ≡ b)) ⊎ ((is_before b a ≡ false) × (earlier a b ≡ a))
earlier-cases a b = cases (is_before b a) refl
  where
    cases : (t : Bool) → is_before b a ≡ t → ((is_before b a ≡ true) × (earlier a b ≡ b)) ⊎ ((is_before b a ≡ false) × (earlier a b ≡ a))
    cases true e = inl (e, rw e refl)
    cases false e = inr (e, rw e refl)

pub record IsEarlier (w : Window) (a b e : ℕ) : Type 0 where
  pub is_one : (e ≡ a) ⊎ (e ≡ b)
  pub upto : IsUpToNext w e
  pub left : turns w.first e ≤ turns w.first a
  pub right : turns w.first e ≤ turns w.first b

pub earlier-is : (w : Window) (a b : ℕ) → IsWindow w → IsUpToNext w a → IsUpToNext w b → IsEarlier w a b (earlier a b)
earlier-is w a b is ua ub =
    ⊎_elim
    (λ yes. let lt : turns w.first b < turns w.first a = (precedes-turns w b a is ub ua).0 (before-precedes b a yes.0) in
    subst (IsEarlier w a b) (sym yes.1) (record { is_one = inr refl; upto = ub; left = omega arith; right = omega arith }))
    (λ other. let ge : turns w.first a ≤ turns w.first b = not-before other.0 in
    subst (IsEarlier w a b) (sym other.1) (record { is_one = inl refl; upto = ua; left = omega arith; right = ge }))
    (earlier-cases a b)
  where
    not-before : is_before b a ≡ false → turns w.first a ≤ turns w.first b
    not-before other = ⊎_elim
        (λ lt. absurd (let yes = precedes-before b a ((precedes-turns w b a is ub ua).1 lt) in cc))
        (λ ge. ge) (cases_lt (turns w.first b) (turns w.first a))

pub earliest-is : (w : Window) (x : ℕ) (others : List ℕ) → IsWindow w → IsUpToNext w x → ((y : ℕ) → Contains others y → IsUpToNext w y)
    → IsEarliest w x others (earliest x others)
earliest-is w x [] is up all = record { is_one = inl refl; first = omega arith; least = λ y c. absurd (Contains-none y c) }
earliest-is w x (o ∷ others) is up all =
    let step = earlier-is w x o is up (all o (Contains-first o others)) in
    let rest = earliest-is w (earlier x o) others is step.upto (λ y c. all y (Contains-rest o y others c)) in
    let a = rest.first in
    let b = step.left in
    let d = step.right in
    record {
      is_one = ⊎_elim
          (λ e. ⊎_elim (λ f. inl (e ∙ f)) (λ f. inr (subst (Contains (o ∷ others)) (sym (e ∙ f)) (Contains-first o others))) step.is_one)
          (λ c. inr (Contains-rest o _ others c)) rest.is_one;
      first = omega arith;
      least = λ y c. ⊎_elim (λ e. subst (λ z. turns w.first (earliest (earlier x o) others) ≤ turns w.first z) e (omega arith)) (λ t. rest.least y t) (Contains-cases o y others c);
    }
