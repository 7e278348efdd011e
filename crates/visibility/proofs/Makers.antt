-- The inserter and the deleter of a version, and what became of an id of the window.
use Rattle.std.proofs.Common.{◌≡◌, ◌≢◌, ◌⊎◌, ℕ, ◌==◌, Option, Some, None, Bool, true, false, refl, sym, ap, ◌∙◌, subst, inl, inr, ⊎_elim, cond}
use Rattle.std.specs.Prelude.{IsSome}
use Rattle.std.specs.Option.{option_map}
use Rattle.std.proofs.lemmas.Bool.{cases_Bool, cond-false, eq-eqb, ne_eqb}
use Rattle.std.proofs.lemmas.Option.{same_Some, none-some}
use Rattle.tuple_header.specs.declared.version.Header.{Header}
use Rattle.tuple_header.specs.Marks.{is_frozen}
use Rattle.commit_status.specs.declared.status.Status.{Status}
use Rattle.commit_status.specs.declared.status.Status.TheVariants.{InProgress, Committed}
use Rattle.commit_status.specs.Window.{Window, IsGiven, place, status_of}
use Rattle.commit_status.specs.Window as window
use Rattle.commit_status.proofs.Places.{is-from_some}
use Rattle.commit_status.proofs.Giving.{finished-place}
use Rattle.visibility.specs.Seeing.{inserter, deleter, HasCommitted, IsRunning, VisibleBy, Touches}
use Rattle.visibility.specs.Visible.{IsFrozen, state_of}

-- the inserter and the deleter of a version

pub inserter-is : (h : Header) (x : ℕ) → inserter h ≡ Some x → (¬ IsFrozen h) × (h.xmin.0 ≡ x)
inserter-is h x is = of (is_frozen h) refl is
  where
    of : (b : Bool) → is_frozen h ≡ b → cond b None (Some h.xmin.0) ≡ Some x → (¬ IsFrozen h) × (h.xmin.0 ≡ x)
    of true frozen is = absurd (none-some x is)
    of false unfrozen is = (λ frozen. cc, same_Some h.xmin.0 x is)

pub is-inserter : (h : Header) (x : ℕ) → ¬ IsFrozen h → h.xmin.0 ≡ x → inserter h ≡ Some x
is-inserter h x unfrozen is = elim (cases_Bool (is_frozen h)) [
  | inl frozen ↦ absurd (unfrozen frozen)
  | inr thawed ↦ cond-false (is_frozen h) None (Some h.xmin.0) thawed ∙ ap Some is
]

pub deleter-is : (h : Header) (x : ℕ) → deleter h ≡ Some x → (h.xmax.0 ≢ 0) × (h.xmax.0 ≡ x)
deleter-is h x is = of (h.xmax.0 == 0) refl is
  where
    of : (b : Bool) → (h.xmax.0 == 0) ≡ b → cond b None (Some h.xmax.0) ≡ Some x → (h.xmax.0 ≢ 0) × (h.xmax.0 ≡ x)
    of true none is = absurd (none-some x is)
    of false some is = (λ zero'. let yes' = eq-eqb h.xmax.0 0 zero' in cc, same_Some h.xmax.0 x is)

pub is-deleter : (h : Header) (x : ℕ) → h.xmax.0 ≢ 0 → h.xmax.0 ≡ x → deleter h ≡ Some x
is-deleter h x some is = cond-false (h.xmax.0 == 0) None (Some h.xmax.0) (ne_eqb h.xmax.0 0 some) ∙ ap Some is

-- A version that is seen, by its header's parts.

pub visible-of : (R : ℕ → Type 0) (h : Header) → IsFrozen h ⊎ R h.xmin.0 → (h.xmax.0 ≢ 0 → ¬ R h.xmax.0) → VisibleBy R h
visible-of R h made kept = record {
  made = λ x is. let m = inserter-is h x is in ⊎_elim (λ frozen. absurd (m.0 frozen)) (λ r. subst R m.1 r) made;
  kept = λ x is r. let d = deleter-is h x is in kept d.0 (subst R (sym d.1) r);
}

pub made-of : (R : ℕ → Type 0) (h : Header) → VisibleBy R h → IsFrozen h ⊎ R h.xmin.0
made-of R h v = ⊎_elim
    (λ frozen. inl frozen)
    (λ thawed. inr (v.made h.xmin.0 (cond-false (is_frozen h) None (Some h.xmin.0) thawed)))
    (cases_Bool (is_frozen h))

pub kept-of : (R : ℕ → Type 0) (h : Header) → VisibleBy R h → h.xmax.0 ≢ 0 → ¬ R h.xmax.0
kept-of R h v some = v.kept h.xmax.0 (is-deleter h h.xmax.0 some refl)

-- what an id is to a version that it touched
pub touch-cases : (h : Header) (x : ℕ) → Touches x h → ((¬ IsFrozen h) × (h.xmin.0 ≡ x)) ⊎ ((h.xmax.0 ≢ 0) × (h.xmax.0 ≡ x))
touch-cases h x (Touches.made_by is) = inl (inserter-is h x is)
touch-cases h x (Touches.deleted_by is) = inr (deleter-is h x is)

-- the status of an id of the window

mapped-some : (o : Option ℕ) (a b : Status) → option_map (λ _. a) o ≡ Some b → IsSome o × (a ≡ b)
mapped-some None a b is = absurd (none-some b is)
mapped-some (Some i) a b is = (refl, same_Some a b is)

mapped-is : (o : Option ℕ) (a b : Status) → IsSome o → a ≡ b → option_map (λ _. a) o ≡ Some b
mapped-is None a b some same = cc
mapped-is (Some i) a b some same = ap Some same

pub state-some : (w : Window) (x : ℕ) (s : Status) → state_of w x ≡ Some s → IsGiven w x × (status_of w x ≡ s)
state-some w x s is = mapped-some (place w x) (status_of w x) s is

pub state-is : (w : Window) (x : ℕ) (s : Status) → IsGiven w x → status_of w x ≡ s → state_of w x ≡ Some s
state-is w x s given same = mapped-is (place w x) (status_of w x) s given same

pub active-to : (w : Window) (x : ℕ) → IsRunning (state_of w) x → window.IsActive w x
active-to w x is = let h = state-some w x InProgress is in record { is_given = h.0; unfinished = h.1 }

pub active-from : (w : Window) (x : ℕ) → window.IsActive w x → IsRunning (state_of w) x
active-from w x h = state-is w x InProgress h.is_given h.unfinished

pub committed-to : (w : Window) (x : ℕ) → HasCommitted (state_of w) x → window.IsCommitted w x
committed-to w x is = (state-some w x Committed is).1

pub committed-from : (w : Window) (x : ℕ) → window.IsCommitted w x → HasCommitted (state_of w) x
committed-from w x is = let at = finished-place w x (λ active. cc) in state-is w x Committed (is-from_some (place w x) at.0 at.1) is
