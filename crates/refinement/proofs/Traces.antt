-- What each step does to the traces of what committed late.
use Rattle.std.proofs.Common.{◌≡◌, ℕ, ◌≤◌, List, [], ◌∷◌, ◌++◌, length, Option, Some, sym, ap, ◌∙◌, subst, inl, inr}
use Rattle.std.specs.Prelude.{IsSome, Contains}
use Rattle.std.proofs.lemmas.Option.{same_Some}
use Rattle.xid_circle.specs.declared.Tid.{Tid}
use Rattle.tuple_header.specs.Version.{Version}
use Rattle.tuple_header.specs.declared.version.Row.{Row}
use Rattle.commit_status.specs.declared.status.Status.{Status}
use Rattle.commit_status.specs.declared.status.Status.TheVariants.{InProgress, Committed}
use Rattle.history.specs.History.{Transaction, written, IsLate}
use Rattle.history.proofs.HistoryLemmas.{IsLate-push_old, IsLate-push_new, IsLate-push_cases}
use Rattle.visibility.specs.Seeing.{HasCommitted, IsRunning, VisibleBy, Touches, made_by, deleted_by, inserter, deleter}
use Rattle.refinement.specs.Visible.{HasMissed, IsOwn, At}
use Rattle.refinement.specs.Changes.{AddsVersion, Alters, FinishesIds, SameSight}
use Rattle.refinement.specs.Agrees.{Traced, TracesAgree}
use Rattle.refinement.proofs.Statuses.{IsCommitted-finish_old, IsCommitted-commit_cases, IsCommitted-commit}
use Rattle.visibility.proofs.Verdicts.{VisibleBy-same}
use Rattle.refinement.proofs.Versions.{SomeVersion-weaker, SomeVersion-adds, SomeVersion-alters, Adds-cases, Alters-cases}
use Rattle.refinement.proofs.Readers.{IsNew, IsDeleted, touches_new}
use Rattle.refinement.proofs.Isolations.{running_uncommitted}

-- what is seen of an id that committed stays as it is
pub unseen_still : {status : ℕ → Option Status} {sees sees' : ℕ → Type 0} → SameSight status sees sees' → (x : ℕ) (s : Status) → status x ≡ Some s → ¬ sees x → ¬ sees' x
unseen_still same x s is unseen seen = unseen ((same x s is).1 seen)

pub unseen_before : {status : ℕ → Option Status} {sees sees' : ℕ → Type 0} → SameSight status sees sees' → (x : ℕ) (s : Status) → status x ≡ Some s → ¬ sees' x → ¬ sees x
unseen_before same x s is unseen seen = unseen ((same x s is).0 seen)

pub TracesAgree-same : {status status' : ℕ → Option Status} {store : Tid → Option Version} {history : List Transaction} {sees sees' : ℕ → Type 0} {start : ℕ}
    → ((x : ℕ) → HasCommitted status x → HasCommitted status' x) → ((x : ℕ) → HasCommitted status' x → HasCommitted status x) → SameSight status sees sees'
    → TracesAgree status store history sees start → TracesAgree status' store history sees' start
TracesAgree-same {status} {status'} {store} {history} {sees} {sees'} {start} to back same h = record {
  late_missed = λ k late. SomeVersion-weaker store k (HasMissed status sees) (HasMissed status' sees') (λ p v at missed. (missed.0, (missed.1.0, to missed.0 missed.1.1, unseen_still same missed.0 Committed missed.1.1 missed.1.2))) (h.late_missed k late);
  missed_late = λ p v at missed. h.missed_late p v at (let done = back missed.0 missed.1.1 in (missed.0, (missed.1.0, done, unseen_before same missed.0 Committed done missed.1.2)));
  timely = λ p v at current by. h.timely p v at (VisibleBy-same (λ x touch. back x) (λ x touch. to x) current)
      (λ x is. (same x Committed (back x (current.made x is))).1 (by x is));
}

pub TracesAgree-add : {status : ℕ → Option Status} {store store' : Tid → Option Version} {history : List Transaction} {sees : ℕ → Type 0} {start : ℕ} (x : ℕ) (place : Tid) (new : Version)
    → AddsVersion store store' place new → IsNew x new → IsRunning status x
    → TracesAgree status store history sees start → TracesAgree status store' history sees start
TracesAgree-add {status} {store} {store'} {history} {sees} {start} x place new adds is_new active h = record {
  late_missed = λ k late. SomeVersion-adds adds k (HasMissed status sees) (h.late_missed k late);
  missed_late = λ p v at missed. elim (Adds-cases adds p v at) [
    | inl old ↦ h.missed_late p v old missed
    | inr now ↦ (let same : missed.0 ≡ x = touches_new missed.0 is_new (subst (λ (u : Version). Touches missed.0 u.header) now.1 missed.1.0) in
        absurd (running_uncommitted status x active (subst (λ y. HasCommitted status y) same missed.1.1)))
  ];
  timely = λ p v at current by. elim (Adds-cases adds p v at) [
    | inl old ↦ h.timely p v old current by
    | inr now ↦ absurd (running_uncommitted status x active (current.made x (ap (λ (u : Version). inserter u.header) now.1 ∙ is_new.made)))
  ];
}

pub TracesAgree-delete : {status : ℕ → Option Status} {store store' : Tid → Option Version} {history : List Transaction} {sees : ℕ → Type 0} {start : ℕ} (x : ℕ) (place : Tid) (old new : Version)
    → Alters store store' place old new → IsDeleted x old new → IsRunning status x → ((y : ℕ) → deleter old.header ≡ Some y → ¬ HasCommitted status y)
    → TracesAgree status store history sees start → TracesAgree status store' history sees start
TracesAgree-delete {status} {store} {store'} {history} {sees} {start} x place old new alters deleted active dead h = record {
  late_missed = λ k late. SomeVersion-alters alters k (HasMissed status sees) (HasMissed status sees) same_key to (λ p u bt missed. missed) (h.late_missed k late);
  missed_late = λ p u bt missed. elim (Alters-cases alters p u bt) [
    | inl same ↦ subst (λ k. IsLate history start k) (sym (ap (λ (u : Version). u.row.key) same.1 ∙ same_key)) (h.missed_late place old alters.before (back (subst (λ (u : Version). HasMissed status sees u) same.1 missed)))
    | inr other ↦ h.missed_late p u other.1 missed
  ];
  timely = λ p u bt current by. elim (Alters-cases alters p u bt) [
    | inl same ↦ (let maker : inserter u.header ≡ inserter old.header = ap (λ (u : Version). inserter u.header) same.1 ∙ deleted.same_maker in
        subst (λ k. ¬ IsLate history start k) (sym (ap (λ (u : Version). u.row.key) same.1 ∙ same_key))
        (h.timely place old alters.before (record { made = λ y is. current.made y (maker ∙ is); kept = dead }) (λ y is. by y (maker ∙ is))))
    | inr other ↦ h.timely p u other.1 current by
  ];
}
  where
    same_key : new.row.key ≡ old.row.key
    same_key = ap (λ (r : Row). r.key) deleted.same_row

    to : HasMissed status sees old → HasMissed status sees new
    to (y, (made_by is, done, unseen)) = (y, (made_by (deleted.same_maker ∙ is), done, unseen))
    to (y, (deleted_by is, done, unseen)) = absurd (dead y is done)

    back : HasMissed status sees new → HasMissed status sees old
    back (y, (made_by is, done, unseen)) = (y, (made_by (sym deleted.same_maker ∙ is), done, unseen))
    back (y, (deleted_by is, done, unseen)) = absurd (running_uncommitted status x active (subst (λ z. HasCommitted status z) (same_Some y x (sym is ∙ deleted.by)) done))

-- the transaction wrote no key of which there is a current version that none of the ids touched
abbrev pub SparesCurrent : (ℕ → Option Status) → (Tid → Option Version) → List ℕ → Transaction → Type 0
SparesCurrent status store ids t = (p : Tid) (v : Version) → At store p v → VisibleBy (HasCommitted status) v.header → ((x : ℕ) → Contains ids x → ¬ Touches x v.header) → ¬ IsSome (written t v.row.key)

-- what the ids made and deleted is what the transaction wrote
pub TracesAgree-commit : {status status' : ℕ → Option Status} {store : Tid → Option Version} {history : List Transaction} {sees sees' : ℕ → Type 0} {start : ℕ} (own : List ℕ) (t : Transaction)
    → FinishesIds status status' (λ x. Contains own x) Committed → SameSight status sees sees' → Traced store (λ x. Contains own x) t → start ≤ length history → ((x : ℕ) → Contains own x → ¬ sees x)
    → SparesCurrent status store own t
    → TracesAgree status store history sees start → TracesAgree status' store (history ++ t ∷ []) sees' start
TracesAgree-commit {status} {status'} {store} {history} {sees} {sees'} {start} own t finishes same carries began unseen spares h = record {
  late_missed = λ k late. elim (IsLate-push_cases history t start k late) [
    | inl old ↦ SomeVersion-weaker store k (HasMissed status sees) (HasMissed status' sees') (λ p u at missed. (missed.0, (missed.1.0, IsCommitted-finish_old finishes missed.0 missed.1.1, unseen_still same missed.0 Committed missed.1.1 missed.1.2))) (h.late_missed k old)
    | inr wrote ↦ SomeVersion-weaker store k (IsOwn own) (HasMissed status' sees')
        (λ p u at mine. (mine.0, (mine.1, IsCommitted-commit finishes mine.0 mine.2, unseen_still same mine.0 InProgress (finishes.active mine.0 mine.2) (unseen mine.0 mine.2))))
        (carries.written_there k wrote)
  ];
  missed_late = λ p u at missed. elim (IsCommitted-commit_cases finishes missed.0 missed.1.1) [
    | inl mine ↦ IsLate-push_new history t start u.row.key began (carries.there_written p u at (missed.0, missed.1.0, mine))
    | inr old ↦ IsLate-push_old history t start u.row.key (h.missed_late p u at (missed.0, (missed.1.0, old, unseen_before same missed.0 Committed old missed.1.2)))
  ];
  timely = λ p u at current by late. elim (IsLate-push_cases history t start u.row.key late) [
    | inl old ↦ h.timely p u at (was u current by) (λ x is. seen_before x (maker u current by x is) (by x is)) old
    | inr wrote ↦ spares p u at (was u current by) (untouched u current by) wrote
  ];
}
  where
    -- who made it had committed: what the ids make is not seen
    maker : (u : Version) → VisibleBy (HasCommitted status') u.header → ((x : ℕ) → inserter u.header ≡ Some x → sees' x) → (x : ℕ) → inserter u.header ≡ Some x → HasCommitted status x
    maker u current by x is = elim (IsCommitted-commit_cases finishes x (current.made x is)) [
      | inl mine ↦ absurd (unseen x mine ((same x InProgress (finishes.active x mine)).1 (by x is)))
      | inr old ↦ old
    ]

    seen_before : (x : ℕ) → HasCommitted status x → sees' x → sees x
    seen_before x done seen = (same x Committed done).1 seen

    -- so it was current
    was : (u : Version) → VisibleBy (HasCommitted status') u.header → ((x : ℕ) → inserter u.header ≡ Some x → sees' x) → VisibleBy (HasCommitted status) u.header
    was u current by = record { made = maker u current by; kept = λ y is done. current.kept y is (IsCommitted-finish_old finishes y done) }

    -- and none of the ids touched it
    untouched : (u : Version) → VisibleBy (HasCommitted status') u.header → ((x : ℕ) → inserter u.header ≡ Some x → sees' x) → (x : ℕ) → Contains own x → ¬ Touches x u.header
    untouched u current by x mine (made_by is) = running_uncommitted status x (finishes.active x mine) (maker u current by x is)
    untouched u current by x mine (deleted_by is) = current.kept x is (IsCommitted-commit finishes x mine)
