-- A write that is refused before it is tried.
use Rattle.std.proofs.Common.{◌≡◌, ℕ, Option, Some, None, refl, sym, ap, ◌∙◌, subst}
use Rattle.std.specs.Option.{option_map}
use Rattle.xid_circle.specs.declared.Tid.{Tid}
use Rattle.tuple_header.specs.declared.version.Row.{Row}
use Rattle.history.specs.World.{World}
use Rattle.history.specs.Moves.{change, as_failed}
use Rattle.calls.specs.declared.step.Step.TheVariants as step
use Rattle.calls.specs.declared.reply.Reply.TheVariants as reply
use Rattle.calls.specs.declared.reply.Refusal.{Refusal}
use Rattle.calls.specs.declared.reply.Refusal.TheVariants as refusal
use Rattle.calls.specs.Words.{RowToWrite, FitsRow}
use Rattle.calls.specs.Writes.{WriteStep, inserts, updates, deletes, step_of, key_of, Asks}
use Rattle.calls.specs.Bars.{BarsOpen, BarsFree}
use Rattle.refinement.specs.Allowed.{next}
use Rattle.refinement.specs.Finds.{BeginsWrite}
use Rattle.refinement.proofs.Hindrances as hindrances
use Rattle.sessions.specs.declared.session.Session.{Session}
use Rattle.session_steps.specs.State.{State, session_at, put_session, with_failed, refused_state, seen, reader_of, engine_sessions}
use Rattle.session_steps.specs.Agrees.{Agrees, Follows, WrittenAgrees}
use Rattle.session_steps.specs.Tests.{BarsBegin, MayAct, FindsPlace, IsLateKey, IsHeld, RefusesInsertOfKey, RefusesChangeOfKey}
use Rattle.session_steps.specs.Exact.{ExactWrite, Exact, AnswersStep}
use Rattle.refinement.proofs.Runs.{same_indexes, unmade}
use Rattle.session_steps.proofs.InUse.{SameMarks, used-still, marks-put, agree}
use Rattle.session_steps.proofs.OwnIdsLemmas.{open-within}
use Rattle.session_steps.proofs.StateLemmas.{failed_session, only-set}
use Rattle.session_steps.proofs.Owns.{reader-is}
use Rattle.session_steps.proofs.WrittenLemmas.{written-fails}
use Rattle.session_steps.proofs.Searches.{late-to, not-late, held-to, begins-none, begins-some, place-to}
use Rattle.session_steps.proofs.Follows.{Follows-same, Follows-barred_write, stays-so, no_making, is_refused, led-same, Sound-fails}
use Rattle.session_steps.proofs.Writing.{answers-write}

-- A later commit, or another session, has written the key.

-- a session that fails has the same marks
marks-fail : (st : State) (s : ℕ) (e : Session) → session_at st s ≡ Some e → SameMarks st.sessions (put_session st s (option_map failed_session (session_at st s))).sessions
marks-fail st s e at = subst (λ o. SameMarks st.sessions (put_session st s (option_map failed_session o)).sessions) (sym at) (marks-put st.sessions s e (failed_session e) at refl)

-- where the world has an open session fail, the engine agrees whose session fails
pub fails-agree : (st : State) (w : World) (s : ℕ) (e : Session) → session_at st s ≡ Some e → Agrees st w → Agrees (with_failed st s) (change w s as_failed)
fails-agree st w s e at agrees =
    let only = only-set st s (option_map failed_session (session_at st s)) (open-within st.sessions s e at) in
    agree agrees (used-still st.heap.indexes) (marks-fail st s e at) (unmade refl refl) (written-fails st w s e at agrees)
    (hindrances.Agrees-fails (seen st) w s (reader_of e) (seen (with_failed st s)).session
    (record { others = only.others; itself = only.itself ∙ ap (λ o. option_map reader_of (option_map failed_session o)) at }) (reader-is st s e at) agrees.found)
    (Sound-fails st s e at agrees.sound)

-- so it does after a conflict
conflict-next : (w : World) (s : ℕ) (write : WriteStep) → next w (step_of s write) (reply.Refused refusal.Conflict) ≡ change w s as_failed
conflict-next w s (inserts row) = refl
conflict-next w s (updates row) = refl
conflict-next w s (deletes k) = refl

conflicts : (st : State) (s : ℕ) (e : Session) (write : WriteStep) → session_at st s ≡ Some e → IsLateKey st e (key_of write)
    → ((w : World) → Agrees st w → (o : Option Row) × BeginsWrite (seen st) s (reader_of e) (key_of write) o × Asks write o)
    → Follows st (step_of s write) (reply.Refused refusal.Conflict) (with_failed st s)
conflicts st s e write at late begins w agrees =
    let b = begins w agrees in
    let within = open-within st.sessions s e at in
    let only = only-set st s (option_map failed_session (session_at st s)) within in
    let f = hindrances.Follows-conflict (seen st) s (reader_of e) write b.0 (seen (put_session st s (option_map failed_session (session_at st s)))).session b.1 b.2
    (late-to st w e (key_of write) late.id agrees late.late)
    (record { others = only.others; itself = only.itself ∙ ap (λ o. option_map reader_of (option_map failed_session o)) at }) w agrees.found in (
      f.0,
      agree agrees (used-still st.heap.indexes) (marks-fail st s e at) (same_indexes w (step_of s write) (reply.Refused refusal.Conflict) (no_making s write) f.0)
          (subst (WrittenAgrees (with_failed st s)) (sym (conflict-next w s write)) (written-fails st w s e at agrees)) f.1 (Sound-fails st s e at agrees.sound),
      led-same st w agrees,
    )

busies : (st : State) (s o : ℕ) (e : Session) (write : WriteStep) → session_at st s ≡ Some e → IsHeld st e (key_of write) o
    → ((w : World) → Agrees st w → (found : Option Row) × BeginsWrite (seen st) s (reader_of e) (key_of write) found × Asks write found)
    → Follows st (step_of s write) (reply.Refused (refusal.Busy o)) st
busies st s o e write at held begins w agrees =
    let b = begins w agrees in
    let f = held.other in
    let g = hindrances.Follows-busy (seen st) s o (reader_of e) (reader_of f) held.id write b.0 b.1 b.2 (not-late st w e (key_of write) agrees held.timely)
    (held-to st w e (key_of write) held.id agrees held.held) (reader-is st o f held.at) held.owns w agrees.found in
    stays-so st w (step_of s write) (reply.Refused (refusal.Busy o)) (is_refused s write (refusal.Busy o)) agrees g

-- what an insert reads is none of the key, and what an update or a deletion reads is a row of it
asks_none : (st : State) (s : ℕ) (e : Session) (text : RowToWrite) → FitsRow text → MayAct st s e → FindsPlace st.heap e text.key None
    → (w : World) → Agrees st w → (o : Option Row) × BeginsWrite (seen st) s (reader_of e) text.key o × Asks (inserts text) o
asks_none st s e text fits acts finds w agrees = (None, begins-none st w s e text.key agrees acts finds, (fits, refl))

asks_some : (st : State) (s : ℕ) (e : Session) (p : Tid) (write : WriteStep) → ((row : Row) → Asks write (Some row)) → MayAct st s e → FindsPlace st.heap e (key_of write) (Some p)
    → (w : World) → Agrees st w → (o : Option Row) × BeginsWrite (seen st) s (reader_of e) (key_of write) o × Asks write o
asks_some st s e p write asks acts finds w agrees =
    let t = place-to st w s e (key_of write) (Some p) agrees acts.1 finds in
    (Some t.0.row, begins-some st s e (key_of write) p t.0 acts t.1, asks t.0.row)

-- Inserts.

insert-hindered : (st : State) (s : ℕ) (e : Session) (text : RowToWrite) (r : Refusal) → FitsRow text → MayAct st s e → RefusesInsertOfKey st e text.key r → Follows st (step.Insert s text) (reply.Refused r) (refused_state st s r)
insert-hindered st s e text refusal.AlreadyThere fits acts (p, finds) = λ w agrees.
    let t = place-to st w s e text.key (Some p) agrees acts.1 finds in
    Follows-same st (step.Insert s text) (reply.Refused refusal.AlreadyThere) tt
    (hindrances.Follows-already_there (seen st) s (reader_of e) text t.0.row (begins-some st s e text.key p t.0 acts t.1) fits) w agrees
insert-hindered st s e text refusal.Conflict fits acts d = conflicts st s e (inserts text) acts.1 d.1 (asks_none st s e text fits acts d.0)
insert-hindered st s e text (refusal.Busy o) fits acts d = busies st s o e (inserts text) acts.1 d.1 (asks_none st s e text fits acts d.0)
insert-hindered st s e text _ fits acts d = absurd d.1

-- Updates and deletions.

change-hindered : (st : State) (s : ℕ) (e : Session) (write : WriteStep) (r : Refusal) → ((row : Row) → Asks write (Some row)) → hindrances.NeedsRow write → MayAct st s e → RefusesChangeOfKey st e (key_of write) r
    → Follows st (step_of s write) (reply.Refused r) (refused_state st s r)
change-hindered st s e write refusal.NotThere asks needs acts finds = λ w agrees.
    Follows-same st (step_of s write) (reply.Refused refusal.NotThere) (is_refused s write refusal.NotThere)
    (hindrances.Follows-not_there (seen st) s (reader_of e) write (begins-none st w s e (key_of write) agrees acts finds) needs) w agrees
change-hindered st s e write refusal.Conflict asks needs acts d = conflicts st s e write acts.1 d.2 (asks_some st s e d.0 write asks acts d.1)
change-hindered st s e write (refusal.Busy o) asks needs acts d = busies st s o e write acts.1 d.2 (asks_some st s e d.0 write asks acts d.1)
change-hindered st s e write _ asks needs acts d = absurd d.2

-- What such a refusal leaves: it names no fault of a write that was tried.

exact-insert : (st : State) (s : ℕ) (e : Session) (write : WriteStep) (key : ℕ) (r : Refusal) → RefusesInsertOfKey st e key r → ExactWrite st s write (reply.Refused r) (refused_state st s r)
exact-insert st s e write key refusal.NoRoom h = absurd h.1
exact-insert st s e write key refusal.NeedsFreeze h = absurd h.1
exact-insert st s e write key refusal.NoMemory h = absurd h.1
exact-insert st s e write key _ h = refl

exact-change : (st : State) (s : ℕ) (e : Session) (write : WriteStep) (key : ℕ) (r : Refusal) → RefusesChangeOfKey st e key r → ExactWrite st s write (reply.Refused r) (refused_state st s r)
exact-change st s e write key refusal.NoRoom h = absurd h.2
exact-change st s e write key refusal.NeedsFreeze h = absurd h.2
exact-change st s e write key refusal.NoMemory h = absurd h.2
exact-change st s e write key _ h = refl

pub answers-hindered_insert : (st : State) (s : ℕ) (e : Session) (text : RowToWrite) (r : Refusal) → FitsRow text → MayAct st s e → RefusesInsertOfKey st e text.key r → AnswersStep st (step.Insert s text) (reply.Refused r) (refused_state st s r)
answers-hindered_insert st s e text r fits acts h = record { follows = insert-hindered st s e text r fits acts h; exact = exact-insert st s e (inserts text) text.key r h }

pub answers-hindered_update : (st : State) (s : ℕ) (e : Session) (text : RowToWrite) (r : Refusal) → FitsRow text → MayAct st s e → RefusesChangeOfKey st e text.key r → AnswersStep st (step.Update s text) (reply.Refused r) (refused_state st s r)
answers-hindered_update st s e text r fits acts h =
    record { follows = change-hindered st s e (updates text) r (λ row. (fits, refl)) fits acts h; exact = exact-change st s e (updates text) text.key r h }

pub answers-hindered_delete : (st : State) (s : ℕ) (e : Session) (key : ℕ) (r : Refusal) → MayAct st s e → RefusesChangeOfKey st e key r → AnswersStep st (step.Delete s key) (reply.Refused r) (refused_state st s r)
answers-hindered_delete st s e key r acts h = record { follows = change-hindered st s e (deletes key) r (λ row. refl) tt acts h; exact = exact-change st s e (deletes key) key r h }

-- A session that is not open, or has failed, leaves all as it was.

exact-unready : (st : State) (s : ℕ) (write : WriteStep) (r : Refusal) → BarsFree (engine_sessions st) s r → ExactWrite st s write (reply.Refused r) st
exact-unready st s write refusal.Conflict is = absurd is
exact-unready st s write refusal.NoRoom is = absurd is
exact-unready st s write refusal.NeedsFreeze is = absurd is
exact-unready st s write refusal.NoMemory is = absurd is
exact-unready st s write _ is = refl

pub answers-unready : (st : State) (s : ℕ) (write : WriteStep) (r : Refusal) → BarsFree (engine_sessions st) s r → AnswersStep st (step_of s write) (reply.Refused r) st
answers-unready st s write r is = answers-write st s write (reply.Refused r) st (Follows-barred_write st s write r is) (exact-unready st s write r is)

pub exact-barred_begin : (st : State) (s : ℕ) (r : Refusal) → BarsBegin st s r → Exact st (step.Begin s) (reply.Refused r) st
exact-barred_begin st s refusal.NoMemory is = absurd is
exact-barred_begin st s _ is = refl

pub exact-barred_begin_by_statement : (st : State) (s : ℕ) (r : Refusal) → BarsBegin st s r → Exact st (step.BeginReadCommitted s) (reply.Refused r) st
exact-barred_begin_by_statement st s refusal.NoMemory is = absurd is
exact-barred_begin_by_statement st s _ is = refl

-- a session that is open, or is not there, may not begin
pub barred-begin : (st : State) (s : ℕ) (r : Refusal) → (r ≡ refusal.NotOpen → ⊥) → BarsOpen (engine_sessions st) s r → BarsBegin st s r
barred-begin st s refusal.NoSuchSession ne is = is
barred-begin st s refusal.NotOpen ne is = absurd (ne refl)
barred-begin st s _ ne is = absurd is
