-- An index that is exact from an id on: who may scan it sees nothing that it leaves out; and ids that are given or end keep it so.
use Rattle.std.proofs.Common.{◌≡◌, ◌≢◌, ◌⊎◌, ℕ, ◌≤◌, List, [], ◌∷◌, length, Option, Some, None, arith, inl, inr, refl, sym, ◌∙◌, subst, slice_get}
use Rattle.std.specs.Prelude.{IsSome}
use Rattle.std.specs.List.{Contains, fold}
use Rattle.xid_circle.proofs.Members.{Contains-first, Contains-rest}
use Rattle.commit_status.specs.declared.status.Status.{Status}
use Rattle.commit_status.specs.declared.status.Status.TheVariants.{InProgress}
use Rattle.commit_status.specs.Window.{Window, IsWindow, IsActive, IsGiven, IsUpToNext, turns, place, status_of, next_id}
use Rattle.commit_status.specs.Changes.{Gives, Finishes}
use Rattle.commit_status.proofs.Turns.{turns-given}
use Rattle.commit_status.proofs.Places.{some-from_is, is-from_some}
use Rattle.commit_status.proofs.ChangesLemmas.{finishes-place}
use Rattle.commit_status.proofs.Finishing.{finishes-upto}
use Rattle.commit_status.proofs.Giving.{gives-place_cases, gives-status, gives-upto}
use Rattle.snapshot.specs.Snap.{Snap, listing, taken, empty_at}
use Rattle.snapshot.specs.Laws.{AreOpen, IsInWindow}
use Rattle.snapshot.proofs.Earliest.{earlier-cases}
use Rattle.snapshot.proofs.Takes.{first-in}
use Rattle.visibility.proofs.Dead.{dead-unseen}
use Rattle.sound_entries.specs.Leading.{SeesNoExcused}
use Rattle.sound_entries.specs.Since.{IsExactSince, MayScanSince}

-- Who may scan.

-- whoever reads as of that id, or of a later one, sees nothing that was dead then
pub scan-unexcused : (w : Window) (since : Option ℕ) (s : Snap) (own : List ℕ) → IsWindow w → IsInWindow w s → IsExactSince w since → MayScanSince w since s
    → ((x : ℕ) → Contains own x → IsActive w x) → SeesNoExcused w since s own
scan-unexcused w None s own is within exact may active = λ t none. absurd none
scan-unexcused w (Some id) s own is within exact may active = λ t dead. dead-unseen w s own id t.header is within.bounds exact.upto may active dead

-- the xmin of what lists open transactions: as it was, or the first id of one of them
pub xmin-cases : (owns : List (List ℕ)) (s : Snap)
    → ((fold listing s owns).xmin ≡ s.xmin) ⊎ ((own : List ℕ) × (top : ℕ) × Contains owns own × (slice_get own 0 ≡ Some top) × ((fold listing s owns).xmin ≡ top))
xmin-cases [] s = inl refl
xmin-cases (own ∷ owns) s = elim (xmin-cases owns (listing s own)) [
  | inl e ↦ by own e
  | inr some ↦ inr (some.0, some.1, Contains-rest own some.0 owns some.2, some.3, some.4)
]
  where
    by : (own : List ℕ) → (fold listing (listing s own) owns).xmin ≡ (listing s own).xmin
        → ((fold listing (listing s own) owns).xmin ≡ s.xmin) ⊎ ((one : List ℕ) × (top : ℕ) × Contains (own ∷ owns) one × (slice_get one 0 ≡ Some top) × ((fold listing (listing s own) owns).xmin ≡ top))
    by [] e = inl e
    by (top ∷ children) e = elim (earlier-cases s.xmin top) [
      | inl is_top ↦ inr (top ∷ children, top, Contains-first (top ∷ children) owns, refl, e ∙ is_top.1)
      | inr is_old ↦ inl (e ∙ is_old.1)
    ]

-- the id is not after the next one
before-next : (w : Window) (id : ℕ) → IsWindow w → IsUpToNext w id → turns w.first id ≤ turns w.first (next_id w)
before-next w id is up =
    let reached = up.reached in
    let short = is.short in
    let limit = is.limit in
    let next : turns w.first (next_id w) ≡ length w.entries = turns-given w.first (length w.entries) is.normal is.fits (omega (arith, short, limit)) in
    omega (arith, reached, next)

taken-scan : (w : Window) (since : Option ℕ) (owns : List (List ℕ)) → IsWindow w → AreOpen w owns → IsExactSince w since → MayScanSince w since (taken (next_id w) owns)
taken-scan w None owns is are_open exact = tt
taken-scan w (Some id) owns is are_open exact = elim (xmin-cases owns (empty_at (next_id w))) [
  | inl is_next ↦ subst (λ y. turns w.first id ≤ turns w.first y) (sym is_next) (before-next w id is exact.upto)
  | inr some ↦ subst (λ y. turns w.first id ≤ turns w.first y) (sym some.4) (exact.ended some.1 (are_open.active some.0 some.1 some.2 (first-in some.0 some.1 some.3)))
]

empty-scan : (w : Window) (since : Option ℕ) → IsWindow w → IsExactSince w since → MayScanSince w since (empty_at (next_id w))
empty-scan w None is exact = tt
empty-scan w (Some id) is exact = before-next w id is exact.upto

-- a snapshot that is taken now, of those that are open or of nobody
pub begin-scan : (w : Window) (since : Option ℕ) (owns : List (List ℕ)) → IsWindow w → AreOpen w owns → IsExactSince w since
    → MayScanSince w since (taken (next_id w) owns) × MayScanSince w since (empty_at (next_id w))
begin-scan w since owns is are_open exact = (taken-scan w since owns is are_open exact, empty-scan w since is exact)

-- Steps.

-- where the oldest id stays, so does who may scan
pub same-scan : (w v : Window) → v.first ≡ w.first → (since : Option ℕ) (s : Snap) → MayScanSince w since s → MayScanSince v since s
same-scan w v first None s may = tt
same-scan w v first (Some id) s may = subst (λ f. turns f id ≤ turns f s.xmin) (sym first) may

-- an id is given, and it is the latest
pub giving-since : (w v : Window) (parent : Option ℕ) (since : Option ℕ) → IsWindow w → IsWindow v → Gives w v parent → IsExactSince w since → IsExactSince v since
giving-since w v parent None is iv gives exact = tt
giving-since w v parent (Some id) is iv gives exact = record {
  upto = gives-upto w v parent id gives exact.upto;
  ended = λ x active. subst (λ f. turns f id ≤ turns f x) (sym gives.first) (ended x active.is_given active.unfinished);
}
  where
    ended : (x : ℕ) → IsGiven v x → status_of v x ≡ InProgress → turns w.first id ≤ turns w.first x
    ended x there unfinished =
        let i = some-from_is (place v x) there in
        elim (gives-place_cases w v parent x i.0 iv gives i.1) [
          | inl was ↦ exact.ended x (record { is_given = is-from_some (place w x) i.0 was; unfinished = sym (gives-status w v parent x is iv gives) ∙ unfinished })
          | inr new ↦ subst (λ y. turns w.first id ≤ turns w.first y) (sym new.0) (before-next w id is exact.upto)
        ]

-- ids end, so fewer are in progress
pub finishing-since : (w v : Window) (ids : List ℕ) (status : Status) (since : Option ℕ) → status ≢ InProgress → Finishes w v ids status → IsExactSince w since → IsExactSince v since
finishing-since w v ids status None ends finishes exact = tt
finishing-since w v ids status (Some id) ends finishes exact = record {
  upto = finishes-upto w v ids status id finishes exact.upto;
  ended = λ x active. subst (λ f. turns f id ≤ turns f x) (sym finishes.first) (exact.ended x (was x active));
}
  where
    was : (x : ℕ) → IsActive v x → IsActive w x
    was x active = elim (finishes.each x) [
      | inl one ↦ absurd (ends (sym one.2 ∙ active.unfinished))
      | inr other ↦ record { is_given = subst (λ (o : Option ℕ). IsSome o) (finishes-place w v ids status x finishes) active.is_given; unfinished = sym other.1 ∙ active.unfinished }
    ]
