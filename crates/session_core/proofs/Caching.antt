-- The engine's cache of statuses goes on to agree with its table.
use Rattle.std.proofs.Common.{◌≡◌, ◌≢◌, ◌⊎◌, ℕ, List, [], ◌∷◌, Option, Some, None, slice_get, refl, sym, ap, ◌∙◌, subst, ⊎_elim, inl, inr}
use Rattle.std.specs.Prelude.{Contains, Result, Ok, Err}
use Rattle.std.specs.Option.{option_map}
use Rattle.std.proofs.lemmas.Option.{none-some}
use Rattle.std.proofs.lemmas.List.Elements.{Contains-append_right}
use Rattle.commit_status.specs.declared.status.Status.{Status}
use Rattle.commit_status.specs.declared.status.Status.TheVariants.{InProgress, Committed, Aborted}
use Rattle.commit_status.specs.Window.{Window, IsWindow, IsActive, status_in, status_of}
use Rattle.commit_status.specs.Changes.{Gives, Finishes, given_entry}
use Rattle.commit_status.proofs.Places.{place-lt}
use Rattle.commit_status.proofs.ChangesLemmas.{entry-at}
use Rattle.commit_status.proofs.Giving.{gives-place_old, finished-place, slice_get-push_old}
use Rattle.visibility.specs.Visible.{state_of}
use Rattle.visibility.proofs.Makers.{state-some}
use Rattle.status_cache.specs.Held.{KeepsCache, held_from}
use Rattle.status_cache.proofs.Agreeing.{ended-state, from-held, truncating-keeps}
use Rattle.snapshot.specs.Own.{Own}
use Rattle.heap_write.specs.Heap.{HeapView}
use Rattle.write_ids.specs.Ids.{GivesUnder, TakesIds}
use Rattle.heap_write.specs.declared.heap.WriteFault.{WriteFault}
use Rattle.heap_write.specs.declared.heap.WriteFault.TheVariants as fault
use Rattle.calls.specs.declared.step.Step.{Step}
use Rattle.calls.specs.declared.reply.Reply.{Reply}
use Rattle.calls.specs.Words.{row_of}
use Rattle.calls.specs.Writes.{WriteStep, inserts, updates, deletes}
use Rattle.sessions.specs.declared.session.Session.{Session}
use Rattle.session_steps.specs.State.{State, session_at, horizon_of}
use Rattle.session_steps.specs.Keeps.{OwnIdsKeep}
use Rattle.session_steps.specs.Changes.{Closes}
use Rattle.session_steps.specs.Exact.{Exact, WriteTried}
use Rattle.session_steps.proofs.Writing.{takes-ids}
use Rattle.session_steps.specs.Making.{HasOrMakes}
use Rattle.session_steps.specs.Vacuums.{Forgets}
use Rattle.sound_vacuum.specs.Between.{StepsBetween}
use Rattle.sound_vacuum.proofs.Cleaned.{Ends, steps-end}
use Rattle.vacuum_engine.specs.Between.{Changes}
use Rattle.vacuum_engine.proofs.Exactly.{exact-change}

-- what has ended stays as it ended
abbrev pub EndedStays : Window → Window → Type 0
EndedStays w v = (x : ℕ) (status : Status) → status ≢ InProgress → status_of w x ≡ status → status_of v x ≡ status

pub stays-same : (w v : Window) → v ≡ w → EndedStays w v
stays-same w v is x status ended was = ap (λ (u : Window). status_of u x) is ∙ was

stays-on : (u v w : Window) → EndedStays u v → EndedStays v w → EndedStays u w
stays-on u v w before after x status ended was = after x status ended (before x status ended was)

stays-ends : (w v : Window) → Ends w v → EndedStays w v
stays-ends w v ends x status ended was = ⊎_elim (λ same. same ∙ was) (λ active. absurd (ended (sym was ∙ active.unfinished))) (ends.each x)

stays-finishes : (w v : Window) (ids : List ℕ) (status : Status) → ((x : ℕ) → Contains ids x → IsActive w x) → Finishes w v ids status → EndedStays w v
stays-finishes w v ids end active f x status ended was =
    ⊎_elim (λ mine. absurd (ended (sym was ∙ (active x mine.0).unfinished))) (λ other. other.1 ∙ was) (f.each x)

-- Ids are given.

stays-gives : (w v : Window) (parent : Option ℕ) → Gives w v parent → EndedStays w v
stays-gives w v parent gives x status ended was =
    let at = finished-place w x (λ active. ended (sym was ∙ active)) in
    ap status_in (entry-at v x at.0 (gives-place_old w v parent x at.0 gives at.1) ∙ ap (λ es. slice_get es at.0) gives.entries
    ∙ slice_get-push_old w.entries (given_entry parent) at.0 (place-lt w x at.0 at.1) ∙ sym (entry-at w x at.0 at.1)) ∙ was

stays-given : (xs : List ℕ) (w v : Window) (parent : Option ℕ) → GivesUnder w parent xs v → EndedStays w v
stays-given [] w v parent gives = stays-same w v gives
stays-given (x ∷ xs) w v parent gives = stays-on w gives.0 v (stays-gives w gives.0 parent gives.2) (stays-given xs gives.0 v (Some x) gives.3)

-- A step of a session, a prune or a plan.

module _ (old new : State) where
  abbrev Stays : Type 0
  Stays = EndedStays old.heap.statuses new.heap.statuses

  same-state : new.heap ≡ old.heap → Stays
  same-state is = stays-same old.heap.statuses new.heap.statuses (ap (λ (h : HeapView). h.statuses) is)

  by-step : StepsBetween old.heap new.heap → Stays
  by-step step = stays-ends old.heap.statuses new.heap.statuses (steps-end old.heap new.heap step)

  by-ids : (own own' : Own) (x : ℕ) → TakesIds old.heap.statuses new.heap.statuses own own' x → Stays
  by-ids own own' x takes = stays-given takes.given old.heap.statuses new.heap.statuses _ takes.gives

  write-stays : (s : ℕ) (write : WriteStep) (outcome : Result (Unit {0}) WriteFault) → WriteTried old new s write outcome → Stays
  write-stays s write (Ok u) t = by-ids _ _ _ (takes-ids write t.place (horizon_of old) old.heap new.heap t.session.own t.own t.tried.0 t.tried.1)
  write-stays s (updates row) (Err f) t = by-step (StepsBetween.fails_update t.session.own t.place (row_of row) (horizon_of old) f t.tried.1)
  write-stays s (inserts row) (Err f) t = by-step (StepsBetween.keeps t.tried.1.1)
  write-stays s (deletes key) (Err fault.NeedsFreeze) t = by-step (StepsBetween.keeps t.tried.1.1)
  write-stays s (deletes key) (Err fault.NoRoom) t = absurd t.tried.1
  write-stays s (deletes key) (Err fault.NoMemory) t = by-step (StepsBetween.keeps t.tried.1.2)

  module _ (own : OwnIdsKeep old.sessions old.heap.statuses) where
    close-stays : (s : ℕ) (status : Status) → Closes old new s status → (o : Option Session) → session_at old s ≡ o → Stays
    close-stays s status c (Some e) at = stays-finishes old.heap.statuses new.heap.statuses e.own.ids status (λ x mine. own.active s e x at mine) (c.finishes e at)
    close-stays s status c None at = stays-same old.heap.statuses new.heap.statuses (c.idle at)

    pub change-stays : Changes old new → Stays
    change-stays (Changes.nothing is) = same-state (ap (λ (st : State). st.heap) is)
    change-stays (Changes.opens s o) = same-state (ap (λ (st : State). st.heap) o.is)
    change-stays (Changes.opens_by_statement s o) = same-state (ap (λ (st : State). st.heap) o.is)
    change-stays (Changes.closes s status c) = close-stays s status c (session_at old s) refl
    change-stays (Changes.rolls_back s r) = stays-finishes old.heap.statuses new.heap.statuses r.since Aborted
        (λ x since. own.active s r.session x r.at (subst (λ (ids : List ℕ). Contains ids x) (sym r.were) (Contains-append_right r.own.ids r.since x since)))
        r.finishes
    change-stays (Changes.becomes s before now at goes is) = same-state (ap (λ (st : State). st.heap) is)
    change-stays (Changes.becomes_any s f goes is) = same-state (ap (λ (st : State). st.heap) is)
    change-stays (Changes.writes s write outcome t) = write-stays s write outcome t
    change-stays (Changes.cleans p c) = by-step (StepsBetween.prunes p (horizon_of old) c.heap)
    change-stays (Changes.applies p plan a) = by-step (StepsBetween.applies p (horizon_of old) plan.change plan.actions a.heap)

-- The cache.

pub cache-stays : (cache : Option (List (ℕ × Status))) (w v : Window) → EndedStays w v → KeepsCache cache w → KeepsCache cache v
cache-stays None w v stays keeps = tt
cache-stays (Some held) w v stays keeps = (
  keeps.0,
  λ e there.
      let ended = keeps.0 e there in
      ended-state v e.0 e.1 ended (stays e.0 e.1 ended (state-some w e.0 e.1 (keeps.1 e there)).1),
)

module _ (cache : Option (List (ℕ × Status))) (old new : State) where
  pub same-keeps : new.heap.statuses ≡ old.heap.statuses → KeepsCache cache old.heap.statuses → KeepsCache cache new.heap.statuses
  same-keeps is keeps = subst (λ (w : Window). KeepsCache cache w) (sym is) keeps

  pub change-keeps : OwnIdsKeep old.sessions old.heap.statuses → Changes old new → KeepsCache cache old.heap.statuses → KeepsCache cache new.heap.statuses
  change-keeps own change = cache-stays cache old.heap.statuses new.heap.statuses (change-stays old new own change)

  pub answer-keeps : (s : Step) (reply : Reply) → OwnIdsKeep old.sessions old.heap.statuses → Exact old s reply new → KeepsCache cache old.heap.statuses → KeepsCache cache new.heap.statuses
  answer-keeps s reply own exact = change-keeps own (exact-change old new s reply exact)

  pub making-keeps : (c : ℕ) → HasOrMakes old new c → KeepsCache cache old.heap.statuses → KeepsCache cache new.heap.statuses
  making-keeps c (HasOrMakes.has within there is) = same-keeps (ap (λ (st : State). st.heap.statuses) is)
  making-keeps c (HasOrMakes.makes lacks nobody makes) = same-keeps (ap (λ (h : HeapView). h.statuses) makes.heap.is)

-- Old ids are forgotten.

decided : (o : Option Status) (s : Status) → (o ≡ Some s) ⊎ (¬ (o ≡ Some s))
decided None s = inr (λ is. none-some s is)
decided (Some InProgress) InProgress = inl refl
decided (Some InProgress) Committed = inr (λ is. cc)
decided (Some InProgress) Aborted = inr (λ is. cc)
decided (Some Committed) InProgress = inr (λ is. cc)
decided (Some Committed) Committed = inl refl
decided (Some Committed) Aborted = inr (λ is. cc)
decided (Some Aborted) InProgress = inr (λ is. cc)
decided (Some Aborted) Committed = inr (λ is. cc)
decided (Some Aborted) Aborted = inl refl

-- whether they can be or not
pub forgetting-keeps : (cache : Option (List (ℕ × Status))) (old new : State) (c : ℕ) → IsWindow old.heap.statuses → IsWindow new.heap.statuses → Forgets old new c
    → KeepsCache cache old.heap.statuses → KeepsCache (option_map (held_from c) cache) new.heap.statuses
forgetting-keeps None old new c is iv f keeps = tt
forgetting-keeps (Some held) old new c is iv f keeps = (
  λ e there. keeps.0 e (from-held c held e there).0,
  λ e there. ⊎_elim (λ yes'. yes')
      (λ no'. absurd (no' (subst (λ (h : HeapView). state_of h.statuses e.0 ≡ Some e.1)
      (sym (f.keeps (λ may. no' (truncating-keeps old.heap.statuses new.heap.statuses c held is iv may.upto (f.forgets may).truncates keeps.1 e there))))
      (keeps.1 e (from-held c held e there).0))))
      (decided (state_of new.heap.statuses e.0) e.1),
)
