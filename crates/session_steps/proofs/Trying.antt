-- A write that a session tries: what it changes, or why it is not done.
use Rattle.std.proofs.Common.{◌≡◌, ℕ, List, set, Option, Some, refl, sym, ap, ◌∙◌, subst, inl, inr}
use Rattle.std.specs.Prelude.{Result, Ok, Err, IfOk, IfErr, OnErr, IsSome, Contains}
use Rattle.std.proofs.lemmas.Option.{same_Some}
use Rattle.xid_circle.specs.declared.Tid.{Tid}
use Rattle.xid_circle.specs.declared.Xid.{Xid}
use Rattle.page_sheet.specs.Slots.{version_at}
use Rattle.index_lookup.specs.Pages.{slots_on, version_in}
use Rattle.commit_status.specs.Window.{Window, IsWindow, IsGiven, IsActive}
use Rattle.snapshot.specs.Own.{Own, current_xid, ArePrefixes}
use Rattle.snapshot.proofs.Levels.{level-among}
use Rattle.heap_write.specs.declared.heap.WriteFault.{WriteFault}
use Rattle.heap_write.specs.declared.heap.WriteFault.TheVariants as fault
use Rattle.heap_write.specs.Heap.{HeapView, Keeps, slots_of}
use Rattle.write_ids.specs.Ids.{SameIds, SameOwn}
use Rattle.heap_write.specs.Writes.{PrunesIfFull, Inserts, Deletes}
use Rattle.heap_write.specs.Refusals.{VersionIsThere, LacksForInsert, FailsDelete, AnswersUpdate}
use Rattle.table_integrity.proofs.Places.{version-on}
use Rattle.calls.specs.Words.{RowToWrite, row_of}
use Rattle.calls.specs.Writes.{WriteStep, inserts, updates, deletes, step_of}
use Rattle.calls.specs.declared.reply.Reply.{Reply}
use Rattle.write_ids.proofs.IdLemmas.{same-then}
use Rattle.sessions.specs.declared.session.Session.{Session}
use Rattle.sessions.specs.Places.{open_at}
use Rattle.session_steps.specs.State.{State, session_at, horizon_of}
use Rattle.session_steps.specs.Keeps.{EngineKeeps}
use Rattle.session_steps.specs.Tests.{MayAct, FindsPlace, MayChangeKey, MayTry}
use Rattle.session_steps.specs.Writes.{FailsWrite, TriesWrite, outcome_of, reply_for}
use Rattle.session_steps.specs.Exact.{WriteTried, ExactWrite, AnswersStep}
use Rattle.session_steps.proofs.StateLemmas.{with_own}
use Rattle.session_steps.proofs.Giving.{with_write, keeps-wrote, keeps-kept}
use Rattle.session_steps.proofs.Writing.{Fits, fails-so, takes-ids, answers-write, Follows-tried}

-- the id of a level, whose ids are in progress, is in the window
pub newest-given : (w : Window) (ids : List ℕ) (saved : List (List ℕ)) → ArePrefixes ids saved → ((x : ℕ) → Contains ids x → IsActive w x)
    → (x : ℕ) → current_xid ids saved ≡ Some x → IsGiven w x
newest-given w ids saved prefixes active x is = (active x (level-among ids saved x prefixes is)).is_given

-- The engine keeps what its type keeps, whatever became of a write.

ready-ids : (h ready h' : HeapView) (place : Tid) (horizon size : ℕ) → PrunesIfFull h ready place horizon size → Keeps ready h' → SameIds h.statuses h'.statuses
ready-ids h ready h' place horizon size (PrunesIfFull.has_room room is) keeps = subst (λ (g : HeapView). SameIds g.statuses h'.statuses) is keeps.statuses
ready-ids h ready h' place horizon size (PrunesIfFull.is_pruned full grown grows prunes) keeps =
    let statuses : ready.statuses ≡ grown.statuses = ap (λ (g : HeapView). g.statuses) prunes.is in
    same-then h.statuses grown.statuses h'.statuses grows.statuses (subst (λ t. SameIds t h'.statuses) statuses keeps.statuses)
ready-ids h ready h' place horizon size (PrunesIfFull.is_left full goes grows) keeps = same-then h.statuses ready.statuses h'.statuses grows.statuses keeps.statuses

fails-ids : (write : WriteStep) (place : Tid) (horizon : ℕ) (h h' : HeapView) (own : Own) (f : WriteFault) → FailsWrite write place horizon h h' own f → SameIds h.statuses h'.statuses
fails-ids write place horizon h h' own f fails = elim (fails-so write place horizon h h' own f fails) [
  | inl keeps ↦ keeps.statuses
  | inr full ↦ ready-ids h full.1.ready h' place horizon full.0 full.1.readies full.1.keeps
]

pub keeps-tried : (xs : List (Option Session)) (h h' : HeapView) (s : ℕ) (e : Session) (own : Own) (write : WriteStep) (place : Tid) (horizon : ℕ) (r : Result (Unit {0}) WriteFault) → open_at xs s ≡ Some e
    → TriesWrite write place horizon h h' e.own own r → IsWindow h'.statuses → EngineKeeps xs h.statuses → EngineKeeps (set xs s (Some (with_own e own))) h'.statuses
keeps-tried xs h h' s e own write place horizon (Ok u) at tries is k = keeps-wrote xs h.statuses h'.statuses s e (with_own e own) tries.0 at (takes-ids write place horizon h h' e.own own tries.0 tries.1) is k
keeps-tried xs h h' s e own write place horizon (Err f) at tries is k = keeps-kept xs h.statuses h'.statuses s e own at tries.0 (fails-ids write place horizon h h' e.own f tries.1) k

-- What the heap says of a write is what became of it.

-- an insert is of no version: any place will do
abbrev pub no_place : Tid
no_place = record { page = 0; slot = 0 }

pub tries-insert : (h h' : HeapView) (own own' : Own) (row : RowToWrite) (horizon : ℕ) (r : Result Xid WriteFault) → IfOk r (λ x. Inserts h h' own own' (row_of row) x.0) → IfErr r (λ f. LacksForInsert h own (row_of row) f) → OnErr r (Keeps h h')
    → OnErr r (SameOwn own own') → TriesWrite (inserts row) no_place horizon h h' own own' (outcome_of r)
tries-insert h h' own own' row horizon (Ok x) ok fails keeps same = (x.0, ok)
tries-insert h h' own own' row horizon (Err f) ok fails keeps same = (same, (fails, keeps))

pub tries-update : (h h' : HeapView) (own own' : Own) (place : Tid) (row : RowToWrite) (horizon : ℕ) (r : Result Xid WriteFault) → AnswersUpdate h h' own own' place (row_of row) horizon r → TriesWrite (updates row) place horizon h h' own own' (outcome_of r)
tries-update h h' own own' place row horizon (Ok x) answers = (x.0, answers.ok.0)
tries-update h h' own own' place row horizon (Err f) answers = (answers.same_own, answers.fault)

pub tries-delete : (h h' : HeapView) (own own' : Own) (place : Tid) (key horizon : ℕ) (r : Result Xid WriteFault) → IfOk r (λ x. Deletes h h' own own' place x.0) → IfErr r (λ f. FailsDelete h h' own f) → OnErr r (SameOwn own own')
    → TriesWrite (deletes key) place horizon h h' own own' (outcome_of r)
tries-delete h h' own own' place key horizon (Ok x) ok fails same = (x.0, ok)
tries-delete h h' own own' place key horizon (Err f) ok fails same = (same, fails)

-- the version that the session reads is there
place-there : (h : HeapView) (e : Session) (key : ℕ) (p : Tid) → FindsPlace h e key (Some p) → VersionIsThere h p
place-there h e key p finds =
    let seen = finds.seen_at.seen_in in
    let there : version_in (slots_of h) p ≡ Some seen.version = ap (λ n. version_at (slots_on (slots_of h) n) p.slot) finds.seen_at.page
    ∙ ap (λ n. version_at (slots_on (slots_of h) finds.entry.tid.page) n) seen.slot ∙ seen.first.there in
    subst (λ o. IsSome o) (sym (sym (version-on h p) ∙ there)) refl

-- so is the one that it may change
pub change-there : (st : State) (e : Session) (key : ℕ) (p : Tid) → MayChangeKey st e key p → VersionIsThere st.heap p
change-there st e key p may = elim may [
  | inl found ↦ place-there st.heap e key p found.0
  | inr seen ↦ subst (λ o. IsSome o) (sym (sym (version-on st.heap p) ∙ seen.there)) refl
]

-- That is what the reply says of it.

-- nothing keeps the session that is open under this number from the write
abbrev pub MayTryAt : State → ℕ → WriteStep → Tid → Type 0
MayTryAt st s write place = (e : Session) × MayAct st s e × MayTry st e write place

exact-tried : (st st' : State) (s : ℕ) (write : WriteStep) (r : Result (Unit {0}) WriteFault) → WriteTried st st' s write r → ExactWrite st s write (reply_for r) st'
exact-tried st st' s write (Ok u) tried = tried
exact-tried st st' s write (Err fault.NeedsFreeze) tried = tried
exact-tried st st' s write (Err fault.NoRoom) tried = tried
exact-tried st st' s write (Err fault.NoMemory) tried = tried

-- what a write answers, and what it leaves
pub answers-tried : (st : State) (h : HeapView) (s : ℕ) (e : Session) (own : Own) (write : WriteStep) (place : Tid) (r : Result (Unit {0}) WriteFault) (reply : Reply) → MayTryAt st s write place → Fits write → session_at st s ≡ Some e
    → TriesWrite write place (horizon_of st) st.heap h e.own own r → IsWindow h.statuses → reply ≡ reply_for r → AnswersStep st (step_of s write) reply (with_write st h s (with_own e own))
answers-tried st h s e own write place r reply may fits at tries window is =
    let one : may.0 ≡ e = same_Some may.0 e (sym may.1.1 ∙ at) in
    let after = with_write st h s (with_own e own) in
    let tried : WriteTried st after s write r = record {
      session = e;
      acts = subst (λ e. MayAct st s e) one may.1;
      place = place;
      may = subst (λ e. MayTry st e write place) one may.2;
      own = own;
      is = refl;
      tried = tries;
    } in
    subst (λ reply. AnswersStep st (step_of s write) reply after) (sym is) (answers-write st s write (reply_for r) after (Follows-tried st after s write r tried fits window) (exact-tried st after s write r tried))
