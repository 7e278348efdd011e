-- A reader counts what an id did exactly where its reason says so; and an id has one reason.
use Rattle.std.proofs.Common.{◌≡◌, ◌⊎◌, ℕ, Bool, true, false, List, Option, Some, None, refl, sym, ap, ◌∙◌, inl, inr}
use Rattle.std.specs.Prelude.{◌↔◌}
use Rattle.std.specs.List.{Contains}
use Rattle.commit_status.specs.declared.status.Status.{Status}
use Rattle.commit_status.specs.declared.status.Status.TheVariants as status
use Rattle.commit_status.specs.Window.{Window}
use Rattle.snapshot.specs.Snap.{Snap, Sees}
use Rattle.visibility.specs.Seeing.{Reads, HasCommitted}
use Rattle.visibility.specs.Visible.{ReadsIn, state_of}
use Rattle.reasons.specs.declared.sighting.Sighting.{Sighting}
use Rattle.reasons.specs.declared.reason.Reason.{Reason}
use Rattle.reasons.specs.declared.reason.Reason.TheVariants.{Own, Forgotten, Running, Aborted, Committed}
use Rattle.reasons.specs.Sightings.{IsSighting, sighting_counts}
use Rattle.reasons.specs.Reasons.{IsReasonOf, IsReasonIn, counts}
use Rattle.reasons.proofs.SightingLemmas.{always, never, sight-decides, sight-one}

-- whoever reads what an id did that is not its own sees the id, which has committed
foreign : (w : Window) (s : Snap) (own : List ℕ) (x : ℕ) → ¬ Contains own x → ReadsIn w s own x → Sees s w x × HasCommitted (state_of w) x
foreign w s own x other (Reads.by_itself c) = absurd (other c)
foreign w s own x other (Reads.by_others seen done) = (seen, done)

unread : (w : Window) (s : Snap) (own : List ℕ) (x : ℕ) (o : Option Status) → ¬ Contains own x → state_of w x ≡ o → ¬ (o ≡ Some status.Committed) → ¬ ReadsIn w s own x
unread w s own x o other is differs reads = differs (sym is ∙ (foreign w s own x other reads).1)

pub reason-decides : (w : Window) (s : Snap) (own : List ℕ) (x : ℕ) (reason : Reason) → IsReasonIn w s own x reason → ReadsIn w s own x ↔ (counts reason ≡ true)
reason-decides w s own x Own h = always (Reads.by_itself h)
reason-decides w s own x Forgotten h = never (unread w s own x None h.0 h.1 (λ e. cc))
reason-decides w s own x Running h = never (unread w s own x (Some status.InProgress) h.0 h.1 (λ e. cc))
reason-decides w s own x Aborted h = never (unread w s own x (Some status.Aborted) h.0 h.1 (λ e. cc))
reason-decides w s own x (Committed sight) h =
    let d = sight-decides s w x sight h.1.1 in
    (λ reads. d.0 (foreign w s own x h.0 reads).0, λ e. Reads.by_others (d.1 e) h.1.0)

-- the reason of an id that is not the reader's own
pub of-foreign : (w : Window) (s : Snap) (own : List ℕ) (x : ℕ) (reason : Reason) → ¬ Contains own x → IsReasonOf w s x reason → IsReasonIn w s own x reason
of-foreign w s own x Own other h = absurd h
of-foreign w s own x Forgotten other h = (other, h)
of-foreign w s own x Running other h = (other, h)
of-foreign w s own x Aborted other h = (other, h)
of-foreign w s own x (Committed sight) other h = (other, h)

-- There is one.

of-one : (w : Window) (s : Snap) (x : ℕ) (a b : Reason) → IsReasonOf w s x a → IsReasonOf w s x b → a ≡ b
of-one w s x Own b h k = absurd h
of-one w s x Forgotten Own h k = absurd k
of-one w s x Forgotten Forgotten h k = refl
of-one w s x Forgotten Running h k = absurd (let e : None ≡ Some status.InProgress = sym h ∙ k in cc)
of-one w s x Forgotten Aborted h k = absurd (let e : None ≡ Some status.Aborted = sym h ∙ k in cc)
of-one w s x Forgotten (Committed sight) h k = absurd (let e : None ≡ Some status.Committed = sym h ∙ k.0 in cc)
of-one w s x Running Own h k = absurd k
of-one w s x Running Forgotten h k = absurd (let e : None ≡ Some status.InProgress = sym k ∙ h in cc)
of-one w s x Running Running h k = refl
of-one w s x Running Aborted h k = absurd (let e : Some status.Aborted ≡ Some status.InProgress = sym k ∙ h in cc)
of-one w s x Running (Committed sight) h k = absurd (let e : Some status.Committed ≡ Some status.InProgress = sym k.0 ∙ h in cc)
of-one w s x Aborted Own h k = absurd k
of-one w s x Aborted Forgotten h k = absurd (let e : None ≡ Some status.Aborted = sym k ∙ h in cc)
of-one w s x Aborted Running h k = absurd (let e : Some status.InProgress ≡ Some status.Aborted = sym k ∙ h in cc)
of-one w s x Aborted Aborted h k = refl
of-one w s x Aborted (Committed sight) h k = absurd (let e : Some status.Committed ≡ Some status.Aborted = sym k.0 ∙ h in cc)
of-one w s x (Committed sight) Own h k = absurd k
of-one w s x (Committed sight) Forgotten h k = absurd (let e : None ≡ Some status.Committed = sym k ∙ h.0 in cc)
of-one w s x (Committed sight) Running h k = absurd (let e : Some status.InProgress ≡ Some status.Committed = sym k ∙ h.0 in cc)
of-one w s x (Committed sight) Aborted h k = absurd (let e : Some status.Aborted ≡ Some status.Committed = sym k ∙ h.0 in cc)
of-one w s x (Committed sight) (Committed other) h k = ap Committed (sight-one s w x sight other h.1 k.1)

-- it is the reader's own, or it is not
own-or-not : (w : Window) (s : Snap) (own : List ℕ) (x : ℕ) (a : Reason) → IsReasonIn w s own x a
    → ((a ≡ Own) × Contains own x) ⊎ ((¬ Contains own x) × IsReasonOf w s x a)
own-or-not w s own x Own h = inl (refl, h)
own-or-not w s own x Forgotten h = inr h
own-or-not w s own x Running h = inr h
own-or-not w s own x Aborted h = inr h
own-or-not w s own x (Committed sight) h = inr h

pub reason-one : (w : Window) (s : Snap) (own : List ℕ) (x : ℕ) (a b : Reason) → IsReasonIn w s own x a → IsReasonIn w s own x b → a ≡ b
reason-one w s own x a b h k = elim (own-or-not w s own x a h) [
  | inl mine ↦ elim (own-or-not w s own x b k) [
    | inl too ↦ mine.0 ∙ sym too.0
    | inr other ↦ absurd (other.0 mine.1)
  ]
  | inr foreign ↦ elim (own-or-not w s own x b k) [
    | inl mine ↦ absurd (foreign.0 mine.1)
    | inr other ↦ of-one w s x a b foreign.1 other.1
  ]
]
