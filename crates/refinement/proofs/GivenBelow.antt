-- The first write of a level gives ids to the session's newest levels, the lowest first.
use Rattle.std.proofs.Common.{◌≡◌, ◌≢◌, ℕ, List, [], ◌∷◌, length, Option, Some, sym, ap, ◌∙◌, subst, inl, inr}
use Rattle.std.specs.Prelude.{Contains, ◌==◌, if◌then◌else◌}
use Rattle.std.proofs.lemmas.Bool.{cases_eq}
use Rattle.std.proofs.lemmas.Option.{same_Some}
use Rattle.std.proofs.lemmas.List.Elements.{Contains-push, Contains-append_left, Contains-append_right}
use Rattle.xid_circle.specs.declared.Tid.{Tid}
use Rattle.tuple_header.specs.Version.{Version}
use Rattle.commit_status.specs.declared.status.Status.{Status}
use Rattle.commit_status.specs.declared.status.Status.TheVariants.{Committed}
use Rattle.snapshot.specs.Snap.{Snap}
use Rattle.history.specs.World.{World}
use Rattle.history.proofs.HistoryLemmas.{at_same, at_other}
use Rattle.refinement.specs.Heap.{SeenSession, Heap, kept_snapshot, IsKeptSnapshot, SightOfStatement, StatementSees}
use Rattle.refinement.specs.Visible.{ReaderSees, At}
use Rattle.refinement.specs.Changes.{GivesNext, GivesEach, SameSight, with_id, with_ids}
use Rattle.refinement.specs.Agrees.{HeapAgrees}
use Rattle.refinement.proofs.Statuses.{Reads-status}
use Rattle.visibility.proofs.Verdicts.{VisibleBy-same}
use Rattle.refinement.proofs.Isolations.{SameSights, IsUnseen, statement_same}
use Rattle.refinement.proofs.Steps.{OnlyIs, same_sights, Agrees-give_below}
use Rattle.refinement.proofs.Sights.{Agrees-sights}
use Rattle.refinement.proofs.Follows.{Agrees-sessions}
use Rattle.refinement.proofs.Targets.{visible_given}

-- what the session has by then, and what stays

-- no snapshot that is kept sees the ids
abbrev pub AreUnseen : Heap → (Snap → ℕ → Type 0) → List ℕ → Type 0
AreUnseen h sees' xs = (x : ℕ) → Contains xs x → IsUnseen h sees' x

-- the engine when the first of them has been given
abbrev after_first : Heap → ℕ → SeenSession → ℕ → List ℕ → (ℕ → Option Status) → (Snap → ℕ → Type 0) → Heap
after_first h s e x xs between sees' = record h { status = between; sees = sees'; session = λ o. if o == s then Some (with_id (length xs) x e) else h.session o }

module _ (h : Heap) (w : World) (s : ℕ) (e : SeenSession) (x : ℕ) (xs : List ℕ) (between : ℕ → Option Status) (sees' : Snap → ℕ → Type 0)
    (at : h.session s ≡ Some e) (unseen : AreUnseen h sees' (x ∷ xs)) where
  at_first : (after_first h s e x xs between sees').session s ≡ Some (with_id (length xs) x e)
  at_first = at_same s (Some (with_id (length xs) x e)) (h.session s)

  others_first : (o : ℕ) → o ≢ s → (after_first h s e x xs between sees').session o ≡ h.session o
  others_first o ne = at_other o s (Some (with_id (length xs) x e)) (h.session o) ne

  Agrees-first : GivesNext h.status between x → SameSights h sees' → HeapAgrees h w → HeapAgrees (after_first h s e x xs between sees') w
  Agrees-first gives sights agrees =
      Agrees-give_below h w s e (length xs) x between sees' (after_first h s e x xs between sees').session (record { others = others_first; itself = at_first }) at gives sights
      (unseen x (Contains-append_left (x ∷ []) xs x (Contains-push [] x))) agrees

  -- no other snapshot is kept
  kept_first : (snap : Snap) → IsKeptSnapshot (after_first h s e x xs between sees').session snap → IsKeptSnapshot h.session snap
  kept_first snap kept = elim (cases_eq kept.0 s) [
    | inl same ↦ (
      s,
      e,
      at,
      ap (λ (f : SeenSession). kept_snapshot f.isolation) (same_Some (with_id (length xs) x e) kept.1 (sym at_first ∙ (ap (after_first h s e x xs between sees').session (sym same) ∙ kept.2))) ∙ kept.3,
    )
    | inr ne ↦ (kept.0, kept.1, sym (others_first kept.0 ne) ∙ kept.2, kept.3)
  ]

  unseen_first : AreUnseen (after_first h s e x xs between sees') sees' xs
  unseen_first y among snap kept = unseen y (Contains-append_right (x ∷ []) xs y among) snap (kept_first snap kept)

-- to be given them is no step of the model
pub Agrees-give_each : (xs : List ℕ) (h : Heap) (w : World) (s : ℕ) (e : SeenSession) (status' : ℕ → Option Status) (sees' : Snap → ℕ → Type 0) (session' : ℕ → Option SeenSession)
    → OnlyIs h.session session' s (Some (with_ids xs e)) → h.session s ≡ Some e → GivesEach h.status xs status' → SameSights h sees' → AreUnseen h sees' xs
    → HeapAgrees h w → HeapAgrees (record h { status = status'; sees = sees'; session = session' }) w
Agrees-give_each [] h w s e status' sees' session' only at gives sights unseen agrees =
    subst (λ status. HeapAgrees (record h { status = status; sees = sees'; session = session' }) w) (sym gives)
    (Agrees-sessions (record h { sees = sees' }) w session' same (Agrees-sights h w sees' sights agrees))
  where
    same : (o : ℕ) → session' o ≡ h.session o
    same o = elim (cases_eq o s) [
      | inl is ↦ ap session' is ∙ (only.itself ∙ (sym at ∙ ap h.session (sym is)))
      | inr ne ↦ only.others o ne
    ]
Agrees-give_each (x ∷ xs) h w s e status' sees' session' only at gives sights unseen agrees =
    let now = after_first h s e x xs gives.0 sees' in
    Agrees-give_each xs now w s (with_id (length xs) x e) status' sees' session'
    (record { others = λ o ne. only.others o ne ∙ sym (others_first h w s e x xs gives.0 sees' at unseen o ne); itself = only.itself })
    (at_first h w s e x xs gives.0 sees' at unseen) gives.2 (same_sights now) (unseen_first h w s e x xs gives.0 sees' at unseen)
    (Agrees-first h w s e x xs gives.0 sees' at unseen gives.1 sights agrees)

-- the session still sees the version that it takes
pub visible_given_each : (xs : List ℕ) (h : Heap) (w : World) (s : ℕ) (e : SeenSession) (place : Tid) (old : Version) (status' : ℕ → Option Status) (sees' : Snap → ℕ → Type 0)
    → h.session s ≡ Some e → GivesEach h.status xs status' → SameSights h sees' → AreUnseen h sees' xs → HeapAgrees h w → At h.version place old
    → ReaderSees h.status (StatementSees h e.isolation) e.own old → ReaderSees status' (SightOfStatement status' sees' (with_ids xs e).isolation) (with_ids xs e).own old
visible_given_each [] h w s e place old status' sees' at gives sights unseen agrees stood seen =
    subst (λ status. ReaderSees status (SightOfStatement status sees' e.isolation) e.own old) (sym gives)
    (VisibleBy-same (λ y touch reads. Reads-status (λ done. done) (λ done. (same y Committed done).0) reads) (λ y touch reads. Reads-status (λ done. done) (λ done. (same y Committed done).1) reads) seen)
  where
    same : SameSight h.status (StatementSees h e.isolation) (SightOfStatement h.status sees' e.isolation)
    same = statement_same h h.status sees' s e at sights (λ y status is. (λ done. done, λ done. done))
visible_given_each (x ∷ xs) h w s e place old status' sees' at gives sights unseen agrees stood seen =
    let now = after_first h s e x xs gives.0 sees' in
    visible_given_each xs now w s (with_id (length xs) x e) place old status' sees' (at_first h w s e x xs gives.0 sees' at unseen) gives.2 (same_sights now)
    (unseen_first h w s e x xs gives.0 sees' at unseen) (Agrees-first h w s e x xs gives.0 sees' at unseen gives.1 sights agrees) stood
    (visible_given h w s e x place old gives.0 sees' at gives.1 sights agrees stood seen)
