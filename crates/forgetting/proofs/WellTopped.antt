-- Topmost parents when ids finish, and where they stand.
use Rattle.std.proofs.Common.{◌≡◌, ◌≢◌, ℕ, ◌<◌, ◌≤◌, ◌^◌, ◌⊎◌, List, length, Some, None, arith, inl, inr, ⊎_elim, refl, sym, ap, ◌∙◌, subst}
use Rattle.std.specs.Prelude.{Contains, IsSome}
use Rattle.std.proofs.lemmas.Bool.{cases_eq}
use Rattle.std.proofs.lemmas.Bool.Decides.{nat_tests}
use Rattle.commit_status.specs.declared.status.Status.{Status}
use Rattle.commit_status.specs.declared.status.Status.TheVariants.{InProgress, Committed}
use Rattle.commit_status.specs.Window.{Window, IsWindow, IsGiven, IsActive, IsCommitted, IsInProgress, IsGivenBefore, turns, place, status_of, top_of}
use Rattle.commit_status.specs.Changes.{Finishes}
use Rattle.commit_status.proofs.Places.{IsAt, at-from_place, place-from_at, place-one, some-from_is, is-from_some}
use Rattle.commit_status.proofs.Ancestors.{top-before}
use Rattle.commit_status.proofs.Finishing.{finishes-top}
use Rattle.commit_status.proofs.ChangesLemmas.{finishes-place}
use Rattle.forgetting.specs.Truncating.{IsWellTopped}
use Rattle.forgetting.proofs.Near.{turns-apart, before-within}

-- of two ids of a window the one is the other, or stands before it
apart : (w : Window) (t x i j : ℕ) → IsWindow w → place w x ≡ Some i → place w t ≡ Some j → j ≤ i → (j ≡ i) ⊎ (j ≢ i) → (t ≡ x) ⊎ IsGivenBefore t x
apart w t x i j is here there order (inl same) = inl (place-one w t x i is (there ∙ ap Some same) here)
apart w t x i j is here there order (inr other) =
    let a = at-from_place w.first (length w.entries) x i here in
    let b = at-from_place w.first (length w.entries) t j there in
    let between = turns-apart w.first t x j i is.normal is.fits b.normal b.fits a.normal a.fits b.turn a.turn (omega (arith, order, other)) in
    let limit = is.limit in
    let short = is.short in
    let within = a.within in
    inr (record { normal = b.normal; fits = b.fits; before = omega (arith, between, order, other); near = omega (arith, between, limit, short, within) })

-- a topmost parent in the window is the id itself, or was given before it
pub given-near : (w : Window) (x : ℕ) → IsWindow w → IsGiven w x → IsGiven w (top_of w x) → (top_of w x ≡ x) ⊎ IsGivenBefore (top_of w x) x
given-near w x is here there =
    let i = some-from_is (place w x) here in
    let j = some-from_is (place w (top_of w x)) there in
    apart w (top_of w x) x i.0 j.0 is i.1 j.1 (top-before w x i.0 j.0 is i.1 j.1) (cases_eq j.0 i.0)

-- what was given before an id, and is in the window, stands before it there
pub before-place : (w : Window) (t x i j : ℕ) → IsWindow w → place w x ≡ Some i → place w t ≡ Some j → (t ≡ x) ⊎ IsGivenBefore t x → j ≤ i
before-place w t x i j is here there (inl same) = let e : Some j ≡ Some i = sym there ∙ (ap (place w) same ∙ here) in let n : j ≡ i = cc in omega arith
before-place w t x i j is here there (inr before) =
    let a = at-from_place w.first (length w.entries) x i here in
    let b = at-from_place w.first (length w.entries) t j there in
    let limit = is.limit in
    let short = is.short in
    before-within w.first t x i j (length w.entries) is.normal is.fits b.normal b.fits a.normal a.fits b.turn a.turn b.within a.within (omega (arith, limit, short))
    before.before before.near

module _ (w v : Window) (ids : List ℕ) (end : Status) (ended : end ≢ InProgress) (f : Finishes w v ids end) where
  -- an id that is in progress then was before, and is none of these
  still-active : (y : ℕ) → IsActive v y → IsActive w y × (¬ Contains ids y)
  still-active y active = ⊎_elim
      (λ mine. absurd (ended (sym mine.2 ∙ active.unfinished)))
      (λ other. (record { is_given = subst IsSome (finishes-place w v ids end y f) active.is_given; unfinished = sym other.1 ∙ active.unfinished }, other.0))
      (f.each y)

  -- ids that commit, commit with their topmost parents
  pub finishes-well_topped : IsWindow w → (end ≡ Committed → (x : ℕ) → Contains ids x → Contains ids (top_of w x))
      → ((x : ℕ) → IsCommitted w x → IsWellTopped w x) → (x : ℕ) → IsCommitted v x → IsWellTopped v x
  finishes-well_topped is with_tops tops x done = ⊎_elim mine other (f.each x)
    where
      top : top_of v x ≡ top_of w x
      top = finishes-top w v ids end x f

      mine : Contains ids x × IsGiven w x × (status_of v x ≡ end) → IsWellTopped v x
      mine m =
          let among = with_tops (sym m.2 ∙ done) x m.0 in
          record {
            finished = λ active. (still-active (top_of w x) (subst (IsActive v) top active)).1 among;
            near = subst (λ t. (t ≡ x) ⊎ IsGivenBefore t x) (sym top) (given-near w x is m.1 (given-named (top_of w x) among));
          }
        where
          given-named : (y : ℕ) → Contains ids y → IsGiven w y
          given-named y named = ⊎_elim (λ m. m.1) (λ o. absurd (o.0 named)) (f.each y)

      other : (¬ Contains ids x) × (status_of v x ≡ status_of w x) → IsWellTopped v x
      other o =
          let was = tops x (sym o.1 ∙ done) in
          record {
            finished = λ active. was.finished (still-active (top_of w x) (subst (IsActive v) top active)).0;
            near = subst (λ t. (t ≡ x) ⊎ IsGivenBefore t x) (sym top) was.near;
          }
