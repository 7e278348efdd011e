-- A session in its place becomes another, when it sets a savepoint, returns to one, or releases it.
use Rattle.std.proofs.Common.{◌≡◌, ◌≢◌, ℕ, ◌<◌, List, [], ◌∷◌, ◌++◌, length, set, Option, Some, None, refl, sym, ap, ◌∙◌, subst}
use Rattle.std.proofs.Math.ListN.{length-set}
use Rattle.std.proofs.lemmas.Option.{same_Some}
use Rattle.commit_status.specs.declared.status.Status.TheVariants.{Aborted}
use Rattle.commit_status.specs.Changes.{Finishes}
use Rattle.snapshot.specs.Own.{Own}
use Rattle.calls.specs.declared.step.Step.TheVariants as step
use Rattle.calls.specs.declared.reply.Reply.TheVariants as reply
use Rattle.heap_pages.specs.View.{PagesView}
use Rattle.table_indexes.specs.Indexes.{IndexesView}
use Rattle.heap_write.specs.Heap.{HeapView}
use Rattle.table_integrity.proofs.Forgetting.{aborted-ended}
use Rattle.sessions.specs.declared.session.Session.{Session}
use Rattle.session_steps.specs.State.{State, session_at, put_session}
use Rattle.session_steps.specs.Keeps.{EngineKeeps}
use Rattle.sessions.specs.Places.{open_at}
use Rattle.session_steps.specs.Agrees.{Follows}
use Rattle.session_steps.specs.Changes.{RollsBack}
use Rattle.session_steps.proofs.Returning.{SetsSavepoint, Releases}
use Rattle.session_steps.specs.Tests.{MayAct}
use Rattle.session_steps.proofs.OwnIdsLemmas.{keep-dropped}
use Rattle.session_steps.proofs.StateLemmas.{with_own}
use Rattle.sessions.proofs.Idle.{open-put}
use Rattle.session_steps.proofs.Savepoints.{Follows-savepoint, Follows-release, Follows-roll_back_to}

pub keeps-returned : (xs : List (Option Session)) (h h' : HeapView) (s : ℕ) (e e' : Session) (since : List ℕ) → open_at xs s ≡ Some e → e.own.ids ≡ e'.own.ids ++ since → Finishes h.statuses h'.statuses since Aborted → EngineKeeps xs h.statuses
    → EngineKeeps (set xs s (Some e')) h'.statuses
keeps-returned xs h h' s e e' since at were finishes k = record {
  count = length-set xs s (Some e') ∙ k.count;
  own = keep-dropped xs h.statuses h'.statuses s e e' since Aborted at were aborted-ended finishes k.own;
}

-- only the statuses of the heap change
pub only-statuses : (h h' : HeapView) → h'.pages ≡ h.pages → h'.indexes ≡ h.indexes → h'.max_pages ≡ h.max_pages → h' ≡ record h { statuses = h'.statuses }
only-statuses h h' pages indexes max_pages = ap (λ (x : PagesView). record h' { pages = x }) pages ∙ ap (λ (x : IndexesView). record h' { pages = h.pages; indexes = x }) indexes
    ∙ ap (λ (x : ℕ). record h' { pages = h.pages; indexes = h.indexes; max_pages = x }) max_pages

-- a savepoint that is not set leaves all as it was
pub unnoted : (before st : State) (s : ℕ) (e : Session) (own : Own) → before ≡ st → session_at before s ≡ Some e → own ≡ e.own → put_session before s (Some (record e { own = own })) ≡ st
unnoted before st s e own is at same =
    ap (λ own. put_session before s (Some (record e { own = own }))) same ∙ (ap (λ (xs : List (Option Session)). record before { sessions = xs }) (open-put before.sessions s (Some e) at) ∙ is)

-- The reply follows the history.

pub none-saved : (saved : List (List ℕ)) → length saved ≡ 0 → saved ≡ []
none-saved [] none = refl
none-saved (before ∷ saved) none = cc

some-saved : (saved : List (List ℕ)) → length saved ≢ 0 → (before : List ℕ) × (older : List (List ℕ)) × (saved ≡ before ∷ older)
some-saved [] some = absurd (some refl)
some-saved (before ∷ saved) some = (before, saved, refl)

-- the session that was found is the one that is changed
same-one : (st : State) (s : ℕ) (e f : Session) → session_at st s ≡ Some e → session_at st s ≡ Some f → e ≡ f
same-one st s e f at there = same_Some e f (sym at ∙ there)

pub acts-there : (st : State) (s : ℕ) (e f : Session) → MayAct st s e → session_at st s ≡ Some f → MayAct st s f
acts-there st s e f acts there = subst (λ e. MayAct st s e) (same-one st s e f acts.1 there) acts

-- it has a savepoint, if the one that was found has
pub some-there : (st : State) (s : ℕ) (e f : Session) → session_at st s ≡ Some e → session_at st s ≡ Some f → length e.own.saved ≢ 0 → f.own.saved ≢ []
some-there st s e f at there some none = some (ap (λ (e : Session). length e.own.saved) (same-one st s e f at there) ∙ ap length none)

pub Follows-noted : (st st' : State) (s : ℕ) (e f : Session) (own : Own) → MayAct st s e → session_at st s ≡ Some f → length f.own.saved < 32 → st' ≡ put_session st s (Some (with_own f own)) → SetsSavepoint f.own own
    → Follows st (step.Savepoint s) reply.Done st'
Follows-noted st st' s e f own acts there few is sets =
    let acts = acts-there st s e f acts there in
    Follows-savepoint st st' s f acts.1 acts.2 acts.3 few own is sets

pub Follows-forgotten : (st st' : State) (s : ℕ) (e f : Session) (own : Own) → MayAct st s e → session_at st s ≡ Some f → length e.own.saved ≢ 0 → st' ≡ put_session st s (Some (with_own f own)) → Releases f.own own → Follows st (step.Release s) reply.Done st'
Follows-forgotten st st' s e f own acts there some is releases =
    let one = same-one st s e f acts.1 there in
    let acts = acts-there st s e f acts there in
    let saved = some-saved f.own.saved (subst (λ (e : Session). length e.own.saved ≢ 0) one some) in
    Follows-release st st' s f saved.0 saved.1 acts.1 acts.2 acts.3 saved.2 own is releases

pub Follows-returned : (st st' : State) (s : ℕ) (e : Session) → session_at st s ≡ Some e → e.cursor ≡ None → length e.own.saved ≢ 0 → RollsBack st st' s → Follows st (step.RollbackTo s) reply.Done st'
Follows-returned st st' s e at bare some back =
    let saved = some-saved e.own.saved some in
    Follows-roll_back_to st st' s saved.0 saved.1 back (ap (λ (f : Session). f.cursor) (same-one st s back.session e back.at at) ∙ bare) (ap (λ (f : Session). f.own.saved) (same-one st s back.session e back.at at) ∙ saved.2)
