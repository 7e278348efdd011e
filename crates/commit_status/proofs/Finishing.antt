-- What finishing ids does to each id.
use Rattle.std.proofs.Common.{◌≡◌, ℕ, ◌≤◌, ◌⊎◌, List, length, IsSome, arith, inl, inr, ⊎_elim, sym, ap, ◌∙◌, subst}
use Rattle.std.specs.List.{Contains}
use Rattle.commit_status.specs.declared.status.Status.{Status}
use Rattle.commit_status.specs.declared.status.Status.TheVariants.{InProgress, Committed, Aborted}
use Rattle.commit_status.specs.Window.{Window, IsGiven, IsActive, IsCommitted, IsUpToNext, turns, status_of, ancestor_in, top_of}
use Rattle.commit_status.specs.Changes.{Finishes}
use Rattle.commit_status.proofs.Ancestors.{top-same}
use Rattle.commit_status.proofs.ChangesLemmas.{finishes-place}

-- the tops stay
pub finishes-top : (w v : Window) (ids : List ℕ) (status : Status) (x : ℕ) → Finishes w v ids status → top_of v x ≡ top_of w x
finishes-top w v ids status x f = ap (λ n. ancestor_in n v x) f.count ∙ top-same (length w.entries) v w x f.parents

pub finishes-given : (w v : Window) (ids : List ℕ) (status : Status) (x : ℕ) → Finishes w v ids status → IsGiven w x → IsGiven v x
finishes-given w v ids status x f h = subst IsSome (sym (finishes-place w v ids status x f)) h

pub finishes-upto : (w v : Window) (ids : List ℕ) (status : Status) (x : ℕ) → Finishes w v ids status → IsUpToNext w x → IsUpToNext v x
finishes-upto w v ids status x f up =
    let count = f.count in
    let reached : turns v.first x ≤ length w.entries = subst (λ g. turns g x ≤ length w.entries) (sym f.first) up.reached in
    record { normal = up.normal; fits = up.fits; reached = omega arith }

-- a named id has the status, any other has its own
pub finishes-named : (w v : Window) (ids : List ℕ) (status : Status) (x : ℕ) → Finishes w v ids status → Contains ids x → status_of v x ≡ status
finishes-named w v ids status x f named = ⊎_elim (λ a. a.2) (λ b. absurd (b.0 named)) (f.each x)

pub finishes-other : (w v : Window) (ids : List ℕ) (status : Status) (x : ℕ) → Finishes w v ids status → ¬ Contains ids x → status_of v x ≡ status_of w x
finishes-other w v ids status x f other = ⊎_elim (λ a. absurd (other a.0)) (λ b. b.1) (f.each x)

pub finishes-active_other : (w v : Window) (ids : List ℕ) (status : Status) (x : ℕ) → Finishes w v ids status → ¬ Contains ids x → IsActive w x → IsActive v x
finishes-active_other w v ids status x f other a =
    record { is_given = finishes-given w v ids status x f a.is_given; unfinished = finishes-other w v ids status x f other ∙ a.unfinished }

pub finishes-committed_old : (w v : Window) (ids : List ℕ) (status : Status) (x : ℕ) → ((y : ℕ) → Contains ids y → IsActive w y) → Finishes w v ids status → IsCommitted w x → IsCommitted v x
finishes-committed_old w v ids status x named f done =
    ⊎_elim (λ mine. absurd (let e : InProgress ≡ Committed = sym (named x mine.0).unfinished ∙ done in cc)) (λ other. other.1 ∙ done) (f.each x)

pub commits-cases : (w v : Window) (ids : List ℕ) (x : ℕ) → Finishes w v ids Committed → IsCommitted v x → Contains ids x ⊎ IsCommitted w x
commits-cases w v ids x f done = ⊎_elim (λ mine. inl mine.0) (λ other. inr (sym other.1 ∙ done)) (f.each x)

pub aborts-committed : (w v : Window) (ids : List ℕ) (x : ℕ) → Finishes w v ids Aborted → IsCommitted v x → IsCommitted w x
aborts-committed w v ids x f done =
    ⊎_elim (λ mine. absurd (let e : Aborted ≡ Committed = sym mine.2 ∙ done in cc)) (λ other. sym other.1 ∙ done) (f.each x)
