-- What giving and finishing ids does to each id.
use Rattle.std.proofs.Common.{◌≡◌, ◌≢◌, ℕ, List, Option, Some, None, refl, sym, ap, ◌∙◌, subst, ◌⊎◌, inl, inr}
use Rattle.std.specs.Prelude.{IsSome, Contains}
use Rattle.std.proofs.lemmas.Bool.{cases_eq}
use Rattle.std.proofs.lemmas.Option.{none-some}
use Rattle.commit_status.specs.declared.status.Status.{Status}
use Rattle.commit_status.specs.declared.status.Status.TheVariants.{InProgress, Committed, Aborted}
use Rattle.visibility.specs.Seeing.{HasCommitted, IsRunning, Reads, by_itself, by_others}
use Rattle.refinement.specs.Changes.{GivesNext, FinishesIds}

-- an id is given

pub given_other : {status status' : ℕ → Option Status} {x : ℕ} → GivesNext status status' x → (y : ℕ) (s : Status) → status y ≡ Some s → y ≢ x
given_other {status} gives y s is same = none-some s (sym gives.fresh ∙ (ap status (sym same) ∙ is))

pub keeps-give : {status status' : ℕ → Option Status} {x : ℕ} → GivesNext status status' x → (y : ℕ) (s : Status) → status y ≡ Some s → status' y ≡ Some s
keeps-give gives y s is = gives.others y (given_other gives y s is) ∙ is

pub IsCommitted-give : {status status' : ℕ → Option Status} {x : ℕ} → GivesNext status status' x → (y : ℕ) → HasCommitted status' y → HasCommitted status y
IsCommitted-give {status} {status'} {x} gives y done = elim (cases_eq y x) [
  | inl same ↦ (let now : status' y ≡ Some InProgress = ap status' same ∙ gives.active in cc)
  | inr ne ↦ sym (gives.others y ne) ∙ done
]

pub IsActive-give_cases : {status status' : ℕ → Option Status} {x : ℕ} → GivesNext status status' x → (y : ℕ) → IsRunning status' y → IsRunning status y ⊎ (y ≡ x)
IsActive-give_cases {status} {status'} {x} gives y active = elim (cases_eq y x) [ inl same ↦ inr same | inr ne ↦ inl (sym (gives.others y ne) ∙ active) ]

-- ids are finished

pub IsCommitted-finish_old : {status status' : ℕ → Option Status} {P : ℕ → Type 0} {end : Status} → FinishesIds status status' P end → (y : ℕ) → HasCommitted status y → HasCommitted status' y
IsCommitted-finish_old {status} f y done = elim (f.each y) [
  | inl mine ↦ (let active : status y ≡ Some InProgress = f.active y mine.0 in cc)
  | inr other ↦ other.1 ∙ done
]

pub IsCommitted-commit_cases : {status status' : ℕ → Option Status} {P : ℕ → Type 0} → FinishesIds status status' P Committed → (y : ℕ) → HasCommitted status' y → P y ⊎ HasCommitted status y
IsCommitted-commit_cases f y done = elim (f.each y) [ inl mine ↦ inl mine.0 | inr other ↦ inr (sym other.1 ∙ done) ]

pub IsCommitted-commit : {status status' : ℕ → Option Status} {P : ℕ → Type 0} → FinishesIds status status' P Committed → (y : ℕ) → P y → HasCommitted status' y
IsCommitted-commit f y p = elim (f.each y) [ inl mine ↦ mine.1 | inr other ↦ absurd (other.0 p) ]

pub IsCommitted-abort : {status status' : ℕ → Option Status} {P : ℕ → Type 0} → FinishesIds status status' P Aborted → (y : ℕ) → HasCommitted status' y → HasCommitted status y
IsCommitted-abort f y done = elim (f.each y) [ inl mine ↦ (let is = mine.1 in cc) | inr other ↦ sym other.1 ∙ done ]

pub IsActive-finish : {status status' : ℕ → Option Status} {P : ℕ → Type 0} {end : Status} → end ≢ InProgress → FinishesIds status status' P end → (y : ℕ) → IsRunning status' y → IsRunning status y × (¬ P y)
IsActive-finish {status} {status'} {P} {end} finished f y active = elim (f.each y) [
  | inl mine ↦ absurd (finished (let is = mine.1 in cc))
  | inr other ↦ (sym other.1 ∙ active, other.0)
]

pub IsActive-finish_other : {status status' : ℕ → Option Status} {P : ℕ → Type 0} {end : Status} → FinishesIds status status' P end → (y : ℕ) → ¬ P y → IsRunning status y → IsRunning status' y
IsActive-finish_other f y not active = elim (f.each y) [ inl mine ↦ absurd (not mine.0) | inr other ↦ other.1 ∙ active ]

pub none_given : {A : Type 0} (o : Option A) → o ≡ None → ¬ IsSome o
none_given None e some = cc
none_given (Some x) e some = cc

pub some_of : {A : Type 0} (x : A) (o : Option A) → o ≡ Some x → IsSome o
some_of x o is = subst (λ o. IsSome o) (sym is) refl

pub given-finish : {status status' : ℕ → Option Status} {P : ℕ → Type 0} {end : Status} → FinishesIds status status' P end → (y : ℕ) → IsSome (status y) → IsSome (status' y)
given-finish {status} {status'} {P} {end} f y some = elim (f.each y) [
  | inl mine ↦ some_of end (status' y) mine.1
  | inr other ↦ subst (λ o. IsSome o) (sym other.1) some
]

pub given-give : {status status' : ℕ → Option Status} {x : ℕ} → GivesNext status status' x → (y : ℕ) → IsSome (status y) → IsSome (status' y)
given-give {status} {status'} {x} gives y some = elim (cases_eq y x) [
  | inl same ↦ some_of InProgress (status' y) (ap status' same ∙ gives.active)
  | inr ne ↦ subst (λ o. IsSome o) (sym (gives.others y ne)) some
]

-- none of a session's ids is finished
pub Finishes-none : (status : ℕ → Option Status) (own : List ℕ) → FinishesIds status status (λ x. Contains own x × (¬ Contains own x)) Aborted
Finishes-none status own = record { active = λ x p. absurd (p.1 p.0); each = λ x. inr (λ p. p.1 p.0, refl) }

-- what is read depends on the committed ids, and on what is seen of them
pub Reads-status : {status status' : ℕ → Option Status} {sees sees' : ℕ → Type 0} {own : List ℕ} {x : ℕ} → (HasCommitted status x → HasCommitted status' x) → (HasCommitted status x → sees x → sees' x) → Reads status sees own x → Reads status' sees' own x
Reads-status to same (by_itself own) = by_itself own
Reads-status to same (by_others seen done) = by_others (same done seen) (to done)
