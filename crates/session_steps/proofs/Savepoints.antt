-- Savepoints of the engine follow the history: the session sets one, returns to its newest, or releases it.
use Rattle.std.proofs.Common.{None, ◌≡◌, ℕ, ◌<◌, List, [], ◌∷◌, ◌++◌, length, Some, false, refl, sym, ap, ◌∙◌, subst, inl, inr, set}
use Rattle.std.specs.Prelude.{Contains, IsSome}
use Rattle.std.specs.Option.{option_map}
use Rattle.std.proofs.lemmas.List.Elements.{Contains-append_right, Contains-append_cases}
use Rattle.commit_status.specs.declared.status.Status.TheVariants.{Aborted}
use Rattle.snapshot.specs.Own.{newest, older, Own}
use Rattle.snapshot.proofs.Levels.{distinct-after}
use Rattle.heap_pages.specs.View.{PagesView}
use Rattle.visibility.proofs.Makers.{active-to}
use Rattle.index_lookup.specs.Pages.{version_in}
use Rattle.index_lookup.specs.Pages as lists
use Rattle.history.specs.World.{World}
use Rattle.calls.specs.declared.step.Step.TheVariants as step
use Rattle.calls.specs.declared.reply.Reply.TheVariants as reply
use Rattle.calls.specs.declared.reply.Refusal.{Refusal}
use Rattle.calls.specs.declared.reply.Refusal.TheVariants as refusal
use Rattle.calls.specs.Bars.{BarsOpen, BarsFree}
use Rattle.refinement.specs.Heap as relation
use Rattle.refinement.specs.Allowed.{Allows, next}
use Rattle.refinement.specs.Agrees as theory
use Rattle.refinement.specs.Changes as change
use Rattle.refinement.proofs.Isolations.{SameSights}
use Rattle.refinement.proofs.Steps.{OnlyIs}
use Rattle.refinement.proofs.FollowsSavepoints as savepoints
use Rattle.refinement.proofs.Runs.{unmade}
use Rattle.sessions.specs.declared.session.Session.{Session}
use Rattle.visibility.specs.Visible.{state_of}
use Rattle.session_steps.specs.State.{State, session_at, put_session, seen, position_of, reader_of, engine_sessions}
use Rattle.history.specs.Moves.{change, with_savepoint, to_savepoint, without_savepoint}
use Rattle.session_steps.specs.Agrees.{Agrees, Follows, KeepsAllTargets, NameIds, WrittenAgrees}
use Rattle.session_steps.specs.Changes.{RollsBack}
use Rattle.session_steps.proofs.OwnIdsLemmas.{open-within}
use Rattle.session_steps.proofs.StateLemmas.{only-set}
use Rattle.session_steps.proofs.Windows.{Finishes-from, SameSight-finish}
use Rattle.session_steps.proofs.Owns.{reader-is}
use Rattle.session_steps.proofs.WrittenLemmas.{written-put}
use Rattle.session_steps.proofs.StateLemmas.{with_own}
use Rattle.session_steps.proofs.Returning.{SetsSavepoint, Releases, returned, keeps-saved, keeps-released}
use Rattle.session_steps.proofs.Ends.{rolls-back-sound}
use Rattle.session_steps.proofs.InUse.{SameMarks, used-still, same-used, marks-put, scans-as, agree}
use Rattle.session_steps.proofs.Follows.{Follows-same, closed_by, free_by, some-position, led-same, Sound-put}

-- Refusals.

pub Follows-too_deep : (st : State) (s : ℕ) (e : Session) → session_at st s ≡ Some e → e.failed ≡ false → e.cursor ≡ None → length e.own.saved ≡ 32 → Follows st (step.Savepoint s) (reply.Refused refusal.TooDeep) st
Follows-too_deep st s e at sound bare full = Follows-same st (step.Savepoint s) (reply.Refused refusal.TooDeep) tt (savepoints.Follows-too_deep (seen st) s (reader_of e) (reader-is st s e at) sound (ap position_of bare) full)

pub Follows-savepoint_no_memory : (st : State) (s : ℕ) (e : Session) → session_at st s ≡ Some e → e.failed ≡ false → e.cursor ≡ None → length e.own.saved < 32 → Follows st (step.Savepoint s) (reply.Refused refusal.NoMemory) st
Follows-savepoint_no_memory st s e at sound bare room =
    Follows-same st (step.Savepoint s) (reply.Refused refusal.NoMemory) tt (savepoints.Follows-savepoint_no_memory (seen st) s (reader_of e) (reader-is st s e at) sound (ap position_of bare) room)

pub Follows-barred_savepoint : (st : State) (s : ℕ) (r : Refusal) → BarsFree (engine_sessions st) s r → Follows st (step.Savepoint s) (reply.Refused r) st
Follows-barred_savepoint st s r is = Follows-same st (step.Savepoint s) (reply.Refused r) tt (savepoints.Follows-barred_savepoint (seen st) s r (free_by st s r is))

pub Follows-nowhere_to_return : (st : State) (s : ℕ) (e : Session) → session_at st s ≡ Some e → e.cursor ≡ None → e.own.saved ≡ [] → Follows st (step.RollbackTo s) (reply.Refused refusal.NoSavepoint) st
Follows-nowhere_to_return st s e at bare none = Follows-same st (step.RollbackTo s) (reply.Refused refusal.NoSavepoint) tt (savepoints.Follows-nowhere_to_return (seen st) s (reader_of e) (reader-is st s e at) (ap position_of bare) none)

pub Follows-closed_roll_back_to : (st : State) (s : ℕ) (r : Refusal) → BarsOpen (engine_sessions st) s r → Follows st (step.RollbackTo s) (reply.Refused r) st
Follows-closed_roll_back_to st s r is = Follows-same st (step.RollbackTo s) (reply.Refused r) tt (savepoints.Follows-closed_roll_back_to (seen st) s r (closed_by st s r is))

pub Follows-nothing_to_release : (st : State) (s : ℕ) (e : Session) → session_at st s ≡ Some e → e.failed ≡ false → e.cursor ≡ None → e.own.saved ≡ [] → Follows st (step.Release s) (reply.Refused refusal.NoSavepoint) st
Follows-nothing_to_release st s e at sound bare none =
    Follows-same st (step.Release s) (reply.Refused refusal.NoSavepoint) tt (savepoints.Follows-nothing_to_release (seen st) s (reader_of e) (reader-is st s e at) sound (ap position_of bare) none)

pub Follows-barred_release : (st : State) (s : ℕ) (r : Refusal) → BarsFree (engine_sessions st) s r → Follows st (step.Release s) (reply.Refused r) st
Follows-barred_release st s r is = Follows-same st (step.Release s) (reply.Refused r) tt (savepoints.Follows-barred_release (seen st) s r (free_by st s r is))

pub Follows-barred_roll_back_to : (st : State) (s : ℕ) (e : Session) → session_at st s ≡ Some e → IsSome e.cursor → Follows st (step.RollbackTo s) (reply.Refused refusal.CursorOpen) st
Follows-barred_roll_back_to st s e at some = Follows-same st (step.RollbackTo s) (reply.Refused refusal.CursorOpen) tt (savepoints.Follows-barred_roll_back_to (seen st) s (reader_of e) (reader-is st s e at) (some-position e.cursor some))

-- Nothing changes but the session.

-- of the sessions that readers see, one becomes another
only-becomes : (st : State) (s : ℕ) (e now : Session) (r : relation.SeenSession) → session_at st s ≡ Some e → reader_of now ≡ r → OnlyIs (seen st).session (seen (put_session st s (Some now))).session s (Some r)
only-becomes st s e now r at is = let only = only-set st s (Some now) (open-within st.sessions s e at) in record { others = only.others; itself = only.itself ∙ ap Some is }

pub Follows-savepoint : (st st' : State) (s : ℕ) (e : Session) → session_at st s ≡ Some e → e.failed ≡ false → e.cursor ≡ None → length e.own.saved < 32 → (own : Own) → st' ≡ put_session st s (Some (with_own e own)) → SetsSavepoint e.own own
    → Follows st (step.Savepoint s) reply.Done st'
Follows-savepoint st st' s e at sound bare room own is sets w agrees =
    let now = with_own e own in
    let reader : reader_of now ≡ record (reader_of e) { saved = e.own.ids ∷ e.own.saved } = rw (sets.ids, sets.saved) refl in
    let f = savepoints.Follows-savepoint (seen st) s (reader_of e) (seen (put_session st s (Some now))).session (only-becomes st s e now (record (reader_of e) { saved = e.own.ids ∷ e.own.saved }) at reader)
    (reader-is st s e at) sound (ap position_of bare) room w agrees.found in
    subst (λ st'. Allows w (step.Savepoint s) reply.Done × Agrees st' (next w (step.Savepoint s) reply.Done) × KeepsAllTargets st st') (sym is) (
      f.0,
      agree agrees (used-still st.heap.indexes) (marks-put st.sessions s e now at refl) (unmade refl refl)
          (written-put st w s e now with_savepoint at agrees (λ m there. let name = agrees.written s e m at there in rw (sets.ids, sets.saved) (name.0, name))) f.1
          (Sound-put st s e now at (keeps-saved st.heap.statuses e own sets (agrees.sound.sessions s e at))
          (scans-as st.heap.statuses st.heap.indexes e now refl refl refl (agrees.sound.scans s e at)) agrees.sound),
      led-same st w agrees,
    )

pub Follows-release : (st st' : State) (s : ℕ) (e : Session) (before : List ℕ) (saved : List (List ℕ)) → session_at st s ≡ Some e → e.failed ≡ false → e.cursor ≡ None → e.own.saved ≡ before ∷ saved → (own : Own)
    → st' ≡ put_session st s (Some (with_own e own)) → Releases e.own own → Follows st (step.Release s) reply.Done st'
Follows-release st st' s e before saved at sound bare some own is releases w agrees =
    let now = with_own e own in
    let rest : own.saved ≡ saved = releases.saved ∙ ap older some in
    let reader : reader_of now ≡ record (reader_of e) { saved = saved } = rw (releases.ids, rest) refl in
    let f = savepoints.Follows-release (seen st) s (reader_of e) before saved (seen (put_session st s (Some now))).session (only-becomes st s e now (record (reader_of e) { saved = saved }) at reader)
    (reader-is st s e at) sound (ap position_of bare) some w agrees.found in
    subst (λ st'. Allows w (step.Release s) reply.Done × Agrees st' (next w (step.Release s) reply.Done) × KeepsAllTargets st st') (sym is) (
      f.0,
      agree agrees (used-still st.heap.indexes) (marks-put st.sessions s e now at refl) (unmade refl refl)
          (written-put st w s e now without_savepoint at agrees (λ m there.
          let name = subst (λ saved. NameIds m.has_written (e.own.ids ∷ saved)) some (agrees.written s e m at there) in rw (releases.ids, rest) (name.0, name.1.1))) f.1
          (Sound-put st s e now at (keeps-released st.heap.statuses e own releases (agrees.sound.sessions s e at))
          (scans-as st.heap.statuses st.heap.indexes e now refl refl refl (agrees.sound.scans s e at)) agrees.sound),
      led-same st w agrees,
    )

-- The ids since the newest savepoint are aborted.

abbrev with_pages : State → PagesView → relation.Heap
with_pages st pages = record (seen st) { version = version_in (lists.page_slots_of pages) }

module _ (st st' : State) (s : ℕ) (before : List ℕ) (saved : List (List ℕ)) (back : RollsBack st st' s) (is : back.session.own.saved ≡ before ∷ saved) where
  abbrev now : Session
  now = returned back.session back.own

  sessions-are : st'.sessions ≡ set st.sessions s (Some now)
  sessions-are = ap (λ (x : State). x.sessions) back.is

  were : back.session.own.ids ≡ before ++ back.since
  were = back.were ∙ ap (λ xs. xs ++ back.since) (back.ids ∙ ap newest is)

  only-returns : OnlyIs (seen st).session (seen st').session s (Some (record (reader_of back.session) { own = before; failed = false }))
  only-returns =
      let reader : reader_of now ≡ record (reader_of back.session) { own = before; failed = false } = rw (back.ids, back.saved, ap newest is) refl in
      let only = only-becomes st s back.session now (record (reader_of back.session) { own = before; failed = false }) back.at reader in
      subst (λ xs. OnlyIs (seen st).session (λ o. option_map reader_of (session_at (record st { sessions = xs }) o)) s (Some (record (reader_of back.session) { own = before; failed = false }))) (sym sessions-are) only

  -- those that it had not then
  finishes-since : (w : World) → Agrees st w → change.FinishesIds (state_of st.heap.statuses) (state_of st'.heap.statuses) (λ x. Contains back.session.own.ids x × (¬ Contains before x)) Aborted
  finishes-since w agrees =
      let e = back.session in
      let distinct = (agrees.sound.sessions s e back.at).distinct in
      let mine : (x : ℕ) → Contains back.since x → Contains e.own.ids x = λ x late. subst (λ xs. Contains xs x) (sym were) (Contains-append_right before back.since x late) in
      let f = Finishes-from st.heap.statuses st'.heap.statuses back.since Aborted
      (λ x late. active-to st.heap.statuses x ((agrees.found.opened s (reader_of e) (reader-is st s e back.at)).2.own_active x (mine x late))) back.finishes in
      record {
        active = λ x is. f.active x (late-of x is.0 is.1);
        each = λ x. elim (f.each x) [
          | inl late ↦ inl ((mine x late.0, distinct-after e.own.ids before back.since distinct were x late.0), late.1)
          | inr other ↦ inr (λ is. other.0 (late-of x is.0 is.1), other.1)
        ];
      }
    where
      late-of : (x : ℕ) → Contains back.session.own.ids x → ¬ Contains before x → Contains back.since x
      late-of x own new = elim (Contains-append_cases before back.since x (subst (λ xs. Contains xs x) were own)) [ inl early ↦ absurd (new early) | inr late ↦ late ]

  same-sights : SameSights (seen st) (seen st').sees
  same-sights snap kept = SameSight-finish snap st.heap.statuses st'.heap.statuses back.since Aborted back.finishes

pub Follows-roll_back_to : (st st' : State) (s : ℕ) (before : List ℕ) (saved : List (List ℕ)) (back : RollsBack st st' s) → back.session.cursor ≡ None → back.session.own.saved ≡ before ∷ saved → Follows st (step.RollbackTo s) reply.Done st'
Follows-roll_back_to st st' s before saved back bare is w agrees =
    let f = savepoints.Follows-roll_back_to (seen st) s (reader_of back.session) before saved (seen st').status (seen st').sees (seen st').session (only-returns st st' s before saved back is)
    (reader-is st s back.session back.at) (ap position_of bare) is (λ w' found. finishes-since st st' s before saved back is w agrees) (same-sights st st' s before saved back is) w agrees.found in
    let sound' = rolls-back-sound st st' s before saved w back is agrees in
    let now = returned back.session back.own in
    let sessions : st'.sessions ≡ set st.sessions s (Some now) = ap (λ (x : State). x.sessions) back.is in
    let marks = subst (SameMarks st.sessions) (sym sessions) (marks-put st.sessions s back.session now back.at refl) in
    let ids : back.own.ids ≡ before = back.ids ∙ ap newest is in
    let kept : back.own.saved ≡ before ∷ saved = back.saved ∙ is in
    let written = subst (λ xs. WrittenAgrees (record st { sessions = xs }) (change w s to_savepoint)) (sym sessions) (written-put st w s back.session now to_savepoint back.at agrees (λ m there.
    let name = subst (λ saved. NameIds m.has_written (back.session.own.ids ∷ saved)) is (agrees.written s back.session m back.at there) in rw (ids, kept) (name.1.0, name.1))) in
    (f.0, agree agrees (same-used st.heap.indexes st'.heap.indexes (ap (λ (x : State). x.heap.indexes) back.is)) marks (unmade refl refl) written (subst (λ pages. theory.HeapAgrees (with_pages st' pages) (next w (step.RollbackTo s) reply.Done)) (sym (ap (λ (x : State). x.heap.pages) back.is)) f.1) sound'.0, sound'.1)
