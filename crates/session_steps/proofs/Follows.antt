-- The reply to each step of the engine follows the history.
use Rattle.std.proofs.Common.{◌≡◌, ℕ, zero, suc, ◌<◌, List, [], ◌∷◌, ◌++◌, length, set, Option, Some, None, Bool, true, false, refl, sym, ap, ◌∙◌, subst, ◌⊎◌, inl, inr, arith}
use Rattle.std.proofs.Math.ListN.{length-set}
use Rattle.std.specs.Prelude.{Contains, IsSome}
use Rattle.std.specs.Option.{option_map}
use Rattle.std.proofs.lemmas.Option.{same_Some, none-some}
use Rattle.xid_circle.proofs.Members.{Contains-none}
use Rattle.page_sheet.specs.declared.slot.Slot.{Slot}
use Rattle.page_sheet.specs.declared.slot.Slot.TheVariants.{Unused, Normal, Redirect, Dead}
use Rattle.snapshot.specs.Own.{AreDistinct}
use Rattle.heap_pages.specs.View.{PagesView}
use Rattle.visibility.proofs.Makers.{active-to}
use Rattle.index_lookup.specs.Pages.{version_in, slot_in}
use Rattle.sound_entries.specs.Entries.{MayBeTarget, same_version, led_on, died}
use Rattle.sound_entries.specs.Entries as entries
use Rattle.index_lookup.specs.Pages as lists
use Rattle.table_indexes.specs.Indexes.{since_at}
use Rattle.table_integrity.proofs.InUse.{used-by}
use Rattle.commit_status.specs.declared.status.Status.{Status}
use Rattle.commit_status.specs.declared.status.Status.TheVariants.{Committed, Aborted}
use Rattle.snapshot.specs.Snap.{Snap}
use Rattle.heap_write.specs.Heap.{slots_of}
use Rattle.history.specs.World.{World, Isolation, by_snapshot, by_statement}
use Rattle.calls.specs.declared.step.Step.{Step}
use Rattle.calls.specs.declared.step.Step.TheVariants as step
use Rattle.calls.specs.declared.reply.Reply.{Reply}
use Rattle.calls.specs.declared.reply.Reply.TheVariants as reply
use Rattle.calls.specs.declared.reply.Refusal.{Refusal}
use Rattle.calls.specs.declared.reply.Refusal.TheVariants as refusal
use Rattle.calls.specs.Writes.{WriteStep, inserts, updates, deletes, step_of}
use Rattle.calls.specs.Bars.{BarsOpen, BarsReady, BarsFree, BarsWithCursor}
use Rattle.calls.proofs.BarsLemmas.{AreAlike, alike-open, alike-ready, alike-free, alike-with_cursor}
use Rattle.refinement.specs.Heap as seen_heap
use Rattle.refinement.specs.Agrees as relation
use Rattle.refinement.specs.Allowed.{Allows, next}
use Rattle.refinement.specs.Finds as finds
use Rattle.refinement.specs.Changes as change
use Rattle.refinement.proofs.Itself.{new_session}
use Rattle.refinement.proofs.Isolations.{SameSights}
use Rattle.refinement.proofs.Steps.{OnlyIs}
use Rattle.refinement.proofs.Follows as theory
use Rattle.refinement.proofs.Hindrances as hindrances
use Rattle.sessions.specs.declared.session.Session.{Session}
use Rattle.sessions.specs.declared.session.SessionIsolation.{SessionIsolation}
use Rattle.sessions.specs.declared.session.SessionIsolation.TheVariants.{BySnapshot, ByStatement}
use Rattle.visibility.specs.Visible.{state_of}
use Rattle.session_steps.specs.State.{State, session_at, put_session, seen, position_of, reader_of, isolation_seen, engine_sessions}
use Rattle.sessions.specs.Session.{kept_by, IsByStatement, is_too_new, holds_back, held_back}
use Rattle.sessions.specs.Places.{open_at}
use Rattle.sound_entries.specs.Since.{MayScanSince}
use Rattle.session_steps.specs.Agrees.{Agrees, Sound, Follows, SessionKeeps, SessionScans, KeepsAllTargets, NotesHold, FollowsByNotes, WrittenAgrees}
use Rattle.table_scans.specs.declared.progress.CursorScan.{CursorScan}
use Rattle.table_scans.specs.declared.progress.CursorScan.TheVariants.{Rows, Keys}
use Rattle.table_scans.specs.declared.progress.Scan.TheVariants.{Index, Heap}
use Rattle.session_steps.specs.Changes.{Opens, Closes}
use Rattle.session_steps.specs.Tests.{BarsBegin}
use Rattle.refinement.proofs.Runs.{MakesNoIndex, unmade, same_indexes}
use Rattle.history.specs.Moves.{put, free_to_scan}
use Rattle.history.specs.Moves as moves
use Rattle.history.proofs.HistoryLemmas.{at_same, at_other}
use Rattle.refinement.specs.Heap.{seen_sessions}
use Rattle.session_steps.proofs.InUse.{SameMarks, used-still, same-used, marks-stay, marks-close, no-cursor, scans-as, scans-put, agree}
use Rattle.session_steps.proofs.Scanning.{now-scans}
use Rattle.session_steps.proofs.OwnIdsLemmas.{open-within, open-set_cases}
use Rattle.session_steps.proofs.StateLemmas.{failed_session, only-set}
use Rattle.session_steps.proofs.Windows.{Finishes-from, SameSight-finish, decided}
use Rattle.session_steps.proofs.Owns.{reader-is, now_taken, taken-fresh, taken-within}
use Rattle.session_steps.proofs.WrittenLemmas.{ReadsOrFails, makes-none, written-begins, written-ends, written-stays}
use Rattle.session_steps.proofs.Ends.{commits-sound, aborts-sound}

-- the pages and the entries stay as they are
stays-led : (o : Option Slot) → MayBeTarget o → entries.KeepsTarget o o
stays-led None may = elim may [ inl root ↦ absurd (let e : false ≡ true = root in cc) | inr dead ↦ died dead ]
stays-led (Some Unused) may = elim may [ inl root ↦ absurd (let e : false ≡ true = root in cc) | inr dead ↦ died dead ]
stays-led (Some (Normal t)) may = same_version t t refl refl refl refl
stays-led (Some (Redirect k)) may = led_on k refl refl
stays-led (Some Dead) may = died refl

pub led-same : (st : State) (w : World) → Agrees st w → KeepsAllTargets st st
led-same st w agrees n e there still = stays-led (slot_in (slots_of st.heap) e.tid) ((agrees.sound.table.indexes n (used-by st.heap.indexes n e there)).leads e there)

-- a step that leaves the engine as it is
pub stays-so : (st : State) (w : World) (step : Step) (r : Reply) → ReadsOrFails step r → Agrees st w → Allows w step r × relation.HeapAgrees (seen st) (next w step r) → Allows w step r × Agrees st (next w step r) × KeepsAllTargets st st
stays-so st w step r is agrees f =
    (f.0, agree agrees (used-still st.heap.indexes) (marks-stay st.sessions) (same_indexes w step r (makes-none step r is) f.0) (written-stays st w step r is agrees) f.1 agrees.sound, led-same st w agrees)

pub Follows-same : (st : State) (step : Step) (r : Reply) → ReadsOrFails step r → finds.HeapFollows (seen st) step r (seen st) → Follows st step r st
Follows-same st step r is follows w agrees = stays-so st w step r is agrees (follows w agrees.found)

-- a write makes no index
pub no_making : (s : ℕ) (write : WriteStep) → MakesNoIndex (step_of s write)
no_making s (inserts row) = tt
no_making s (updates row) = tt
no_making s (deletes k) = tt

pub is_refused : (s : ℕ) (write : WriteStep) (r : Refusal) → ReadsOrFails (step_of s write) (reply.Refused r)
is_refused s (inserts row) r = tt
is_refused s (updates row) r = tt
is_refused s (deletes k) r = tt

-- Refusals.

-- a cursor as readers see it

pub some-position : (o : Option CursorScan) → IsSome o → IsSome (position_of o)
some-position None some = absurd (let e : IsSome {T = CursorScan} None = some in cc)
some-position (Some (Rows (Index span))) some = refl
some-position (Some (Rows (Heap from))) some = refl
some-position (Some (Keys range)) some = refl

-- what bars a session bars it as readers see it
alike : (st : State) (s : ℕ) → AreAlike (engine_sessions st) (seen_sessions (seen st)) s
alike st s = record {
  idle = ap (option_map reader_of);
  opened = λ e at. (reader_of e, reader-is st s e at, refl, ap position_of, some-position e.cursor);
}

pub closed_by : (st : State) (s : ℕ) (r : Refusal) → BarsOpen (engine_sessions st) s r → BarsOpen (seen_sessions (seen st)) s r
closed_by st s r is = alike-open (alike st s) r is

pub unready_by : (st : State) (s : ℕ) (r : Refusal) → BarsReady (engine_sessions st) s r → BarsReady (seen_sessions (seen st)) s r
unready_by st s r is = alike-ready (alike st s) r is

pub free_by : (st : State) (s : ℕ) (r : Refusal) → BarsFree (engine_sessions st) s r → BarsFree (seen_sessions (seen st)) s r
free_by st s r is = alike-free (alike st s) r is

pub bare_by : (st : State) (s : ℕ) (r : Refusal) → BarsWithCursor (engine_sessions st) s r → BarsWithCursor (seen_sessions (seen st)) s r
bare_by st s r is = alike-with_cursor (alike st s) r is

pub Follows-closed_commit : (st : State) (s : ℕ) (r : Refusal) → BarsOpen (engine_sessions st) s r → Follows st (step.Commit s) (reply.Refused r) st
Follows-closed_commit st s r is = Follows-same st (step.Commit s) (reply.Refused r) tt (theory.Follows-closed_commit (seen st) s r (closed_by st s r is))

pub Follows-closed_abort : (st : State) (s : ℕ) (r : Refusal) → BarsOpen (engine_sessions st) s r → Follows st (step.Abort s) (reply.Refused r) st
Follows-closed_abort st s r is = Follows-same st (step.Abort s) (reply.Refused r) tt (theory.Follows-closed_abort (seen st) s r (closed_by st s r is))

pub Follows-unready_get : (st : State) (s k : ℕ) (r : Refusal) → BarsReady (engine_sessions st) s r → Follows st (step.Get s k) (reply.Refused r) st
Follows-unready_get st s k r is = Follows-same st (step.Get s k) (reply.Refused r) tt (theory.Follows-unready_get (seen st) s k r (unready_by st s r is))

pub Follows-begin_no_memory : (st : State) (s : ℕ) → s < 64 → session_at st s ≡ None → Follows st (step.Begin s) (reply.Refused refusal.NoMemory) st
Follows-begin_no_memory st s within idle =
    Follows-same st (step.Begin s) (reply.Refused refusal.NoMemory) tt (theory.Follows-begin_refused (seen st) s refusal.NoMemory (λ w agrees. (within, agrees.idle s (ap (option_map reader_of) idle))))

pub Follows-barred_begin : (st : State) (s : ℕ) (r : Refusal) → BarsBegin st s r → Follows st (step.Begin s) (reply.Refused r) st
Follows-barred_begin st s refusal.NoSuchSession is = Follows-same st (step.Begin s) (reply.Refused refusal.NoSuchSession) tt (theory.Follows-begin_refused (seen st) s refusal.NoSuchSession (λ w agrees. is))
Follows-barred_begin st s refusal.AlreadyOpen is = λ w agrees. stays-so st w (step.Begin s) (reply.Refused refusal.AlreadyOpen) tt agrees
    (theory.Follows-already_open (seen st) s (reader_of is.0) (reader-is st s is.0 is.1) (subst (λ n. s < n) agrees.sound.count (open-within st.sessions s is.0 is.1)) w agrees.found)
Follows-barred_begin st s _ is = absurd is

pub Follows-barred_begin_by_statement : (st : State) (s : ℕ) (r : Refusal) → BarsBegin st s r → Follows st (step.BeginReadCommitted s) (reply.Refused r) st
Follows-barred_begin_by_statement st s refusal.NoSuchSession is =
    Follows-same st (step.BeginReadCommitted s) (reply.Refused refusal.NoSuchSession) tt (theory.Follows-begin_by_statement_refused (seen st) s refusal.NoSuchSession (λ w agrees. is))
Follows-barred_begin_by_statement st s refusal.AlreadyOpen is = λ w agrees. stays-so st w (step.BeginReadCommitted s) (reply.Refused refusal.AlreadyOpen) tt agrees
    (theory.Follows-already_open_by_statement (seen st) s (reader_of is.0) (reader-is st s is.0 is.1) (subst (λ n. s < n) agrees.sound.count (open-within st.sessions s is.0 is.1)) w agrees.found)
Follows-barred_begin_by_statement st s _ is = absurd is

-- Begin.

opened_reader : (e : Session) (i : SessionIsolation) → e.isolation ≡ i → e.own.ids ≡ [] → e.own.saved ≡ [] → e.failed ≡ false → e.cursor ≡ None → reader_of e ≡ new_session (isolation_seen i)
opened_reader e i a b c d f = rw (a, b, c, d, f) refl

-- a session opens, which keeps no snapshot but that of this moment, and by statement none
pub Sound-opens : (st : State) (w : World) (s : ℕ) (e : Session) → s < 64 → ((snap : Snap) → kept_by e.isolation ≡ Some snap → snap ≡ now_taken st) → (IsByStatement e.isolation → IsSome (kept_by e.isolation) → ⊥)
    → e.own.ids ≡ [] → e.own.saved ≡ [] → e.cursor ≡ None → Agrees st w → Sound (put_session st s (Some e))
Sound-opens st w s e within snapshot none_kept ids saved bare agrees = record {
  count = length-set st.sessions s (Some e) ∙ agrees.sound.count;
  max_pages = agrees.sound.max_pages;
  stop_age = agrees.sound.stop_age;
  window = agrees.sound.window;
  sessions = λ o f at. elim (open-set_cases st.sessions s o (Some e) f (let count = agrees.sound.count in omega arith) at) [
    | inl same ↦ subst (λ f. SessionKeeps st.heap.statuses f) (same_Some e f same.1) mine
    | inr other ↦ agrees.sound.sessions o f other.1
  ];
  tops = agrees.sound.tops;
  by_key = agrees.sound.by_key;
  since = agrees.sound.since;
  scans = scans-put st.heap.statuses st.heap.indexes st.sessions s e within' (record {
    by_snapshot = λ n snap reads may. subst (MayScanSince st.heap.statuses (since_at st.heap.indexes n)) (sym (snapshot snap (ap kept_by reads))) (now-scans st w agrees n).may;
    cursor = no-cursor st.heap.statuses st.heap.indexes e.isolation e.cursor bare;
  }) agrees.sound.scans;
  table = agrees.sound.table;
}
  where
    mine : SessionKeeps st.heap.statuses e
    mine = record {
      snapshot = λ snap kept. rw (snapshot snap kept) (taken-within st w agrees);
      for_cursor = λ by kept. absurd (none_kept by kept);
      topmost = λ x among. absurd (Contains-none x (subst (λ xs. Contains xs x) ids among));
      prefixes = rw saved tt;
      distinct = subst AreDistinct (sym ids) tt;
    }

    within' : s < length st.sessions
    within' = (let count = agrees.sound.count in omega arith)

-- of the sessions that readers see, one opens
only-opens : (st st' : State) (w : World) (s : ℕ) (i : SessionIsolation) → s < 64 → (opens : Opens st st' s i) → Agrees st w
    → OnlyIs (seen st).session (seen (put_session st s (Some opens.session))).session s (Some (new_session (isolation_seen i)))
only-opens st st' w s i within opens agrees =
    let count = agrees.sound.count in
    let only = only-set st s (Some opens.session) (omega arith) in
    record { others = only.others; itself = only.itself ∙ ap Some (opened_reader opens.session i opens.reads opens.no_ids opens.unsaved opens.sound opens.bare) }

-- by snapshot none is kept but that which was taken, and by statement none at all

kept-new : (st : State) (i : SessionIsolation) (snap : Snap) → (i ≡ BySnapshot (now_taken st)) ⊎ (i ≡ ByStatement None) → kept_by i ≡ Some snap → snap ≡ now_taken st
kept-new st i snap (inl is) kept = same_Some snap (now_taken st) (sym kept ∙ ap kept_by is)
kept-new st i snap (inr is) kept = absurd (none-some snap (ap kept_by (sym is) ∙ kept))

none-new : (st : State) (i : SessionIsolation) → (i ≡ BySnapshot (now_taken st)) ⊎ (i ≡ ByStatement None) → IsByStatement i → IsSome (kept_by i) → ⊥
none-new st i (inl is) by some = absurd (subst (λ i. IsByStatement i) is by)
none-new st i (inr is) by some = absurd (let e : IsSome {T = Snap} None = subst (λ i. IsSome (kept_by i)) is some in cc)

opens-sound : (st st' : State) (w : World) (s : ℕ) (i : SessionIsolation) → s < 64 → (i ≡ BySnapshot (now_taken st)) ⊎ (i ≡ ByStatement None) → (opens : Opens st st' s i) → Agrees st w → Sound (put_session st s (Some opens.session))
opens-sound st st' w s i within new opens agrees =
    let as_new = subst (λ j. (j ≡ BySnapshot (now_taken st)) ⊎ (j ≡ ByStatement None)) (sym opens.reads) new in
    Sound-opens st w s opens.session within (λ snap kept. kept-new st opens.session.isolation snap as_new kept) (none-new st opens.session.isolation as_new) opens.no_ids opens.unsaved opens.bare agrees

-- it has not written
opened-written : (st st' : State) (w : World) (s : ℕ) (i : SessionIsolation) (isolation : Isolation) → s < 64 → (opens : Opens st st' s i) → Agrees st w
    → WrittenAgrees (put_session st s (Some opens.session)) (put w s (Some (moves.new_session isolation)))
opened-written st st' w s i isolation within opens agrees =
    written-begins st w s opens.session (moves.new_session isolation) (let count = agrees.sound.count in omega arith) agrees (rw (opens.no_ids, opens.unsaved) (refl, tt))

-- no index is too new for it
opened-agrees : (st st' : State) (w : World) (s : ℕ) (i : SessionIsolation) → s < 64 → (i ≡ BySnapshot (now_taken st)) ⊎ (i ≡ ByStatement None) → (opens : Opens st st' s i) → Agrees st w
    → (w' : World) → w'.has_index ≡ w.has_index → w'.too_new ≡ (free_to_scan w s).too_new → WrittenAgrees (put_session st s (Some opens.session)) w'
    → relation.HeapAgrees (seen (put_session st s (Some opens.session))) w' → Agrees (put_session st s (Some opens.session)) w'
opened-agrees st st' w s i within new opens agrees w' had marks written found = record {
  found = found;
  indexes = λ n. (λ used. ap (λ (has : ℕ → Bool). has n) had ∙ (agrees.indexes n).0 used, λ has. (agrees.indexes n).1 (sym (ap (λ (has : ℕ → Bool). has n) had) ∙ has));
  scans = λ o f bt n. ap (λ (marks : ℕ → ℕ → Bool). marks o n) marks ∙ elim (open-set_cases st.sessions s o (Some opens.session) f (let count = agrees.sound.count in omega arith) bt) [
    | inl here ↦ ap (λ t. (free_to_scan w s).too_new t n) here.0 ∙ (at_same s false (w.too_new s n) ∙ (sym (opens.scans_all n) ∙ ap (λ (g : Session). is_too_new g n) (same_Some opens.session f here.1)))
    | inr other ↦ at_other o s false (w.too_new o n) other.0 ∙ agrees.scans o f other.1 n
  ];
  written = written;
  sound = opens-sound st st' w s i within new opens agrees;
}

pub Follows-begin : (st st' : State) (s : ℕ) → s < 64 → session_at st s ≡ None → Opens st st' s (BySnapshot (now_taken st)) → Follows st (step.Begin s) reply.Done st'
Follows-begin st st' s within idle opens w agrees =
    let f = theory.Follows-begin (seen st) s (now_taken st) (seen (put_session st s (Some opens.session))).session (only-opens st st' w s (BySnapshot (now_taken st)) within opens agrees) within
    (ap (option_map reader_of) idle) (λ w' found. taken-fresh st w agrees) w agrees.found in
    subst (λ st'. Allows w (step.Begin s) reply.Done × Agrees st' (next w (step.Begin s) reply.Done) × KeepsAllTargets st st') (sym opens.is)
    (f.0, opened-agrees st st' w s (BySnapshot (now_taken st)) within (inl refl) opens agrees (next w (step.Begin s) reply.Done) refl refl (opened-written st st' w s (BySnapshot (now_taken st)) (by_snapshot (length w.history)) within opens agrees) f.1, led-same st w agrees)

pub Follows-begin_by_statement : (st st' : State) (s : ℕ) → s < 64 → session_at st s ≡ None → Opens st st' s (ByStatement None) → Follows st (step.BeginReadCommitted s) reply.Done st'
Follows-begin_by_statement st st' s within idle opens w agrees =
    let f = theory.Follows-begin_by_statement (seen st) s (seen (put_session st s (Some opens.session))).session (only-opens st st' w s (ByStatement None) within opens agrees) within
    (ap (option_map reader_of) idle) w agrees.found in
    subst (λ st'. Allows w (step.BeginReadCommitted s) reply.Done × Agrees st' (next w (step.BeginReadCommitted s) reply.Done) × KeepsAllTargets st st') (sym opens.is)
    (f.0, opened-agrees st st' w s (ByStatement None) within (inr refl) opens agrees (next w (step.BeginReadCommitted s) reply.Done) refl refl (opened-written st st' w s (ByStatement None) by_statement within opens agrees) f.1, led-same st w agrees)

-- Commit and Abort.

-- what readers see of other pages with the rest of the engine
abbrev with_pages : State → PagesView → seen_heap.Heap
with_pages st pages = record (seen st) { version = version_in (lists.page_slots_of pages) }

module _ (st st' : State) (s : ℕ) (e : Session) (end : Status) (at : session_at st s ≡ Some e) (closes : Closes st st' s end) where
  only-closes : OnlyIs (seen st).session (seen st').session s None
  only-closes =
      let only = only-set st s None (open-within st.sessions s e at) in
      let P : List (Option Session) → Type 0 = λ xs. OnlyIs (seen st).session (λ o. option_map reader_of (session_at (record st { sessions = xs }) o)) s None in
      subst P (sym (ap (λ (x : State). x.sessions) closes.is)) only

  own-finishes : (w : World) → relation.HeapAgrees (seen st) w → change.FinishesIds (state_of st.heap.statuses) (state_of st'.heap.statuses) (λ x. Contains e.own.ids x) end
  own-finishes w found = Finishes-from st.heap.statuses st'.heap.statuses e.own.ids end
      (λ x mine. active-to st.heap.statuses x ((found.opened s (reader_of e) (reader-is st s e at)).2.own_active x mine)) (closes.finishes e at)

  same-sights : SameSights (seen st) (seen st').sees
  same-sights snap kept = SameSight-finish snap st.heap.statuses st'.heap.statuses e.own.ids end (closes.finishes e at)

  -- the others have the same marks
  closed-marks : SameMarks st.sessions st'.sessions
  closed-marks = subst (SameMarks st.sessions) (sym (ap (λ (x : State). x.sessions) closes.is)) (marks-close st.sessions s (open-within st.sessions s e at))

  -- and it has written no more
  closed-written : (w : World) → Agrees st w → WrittenAgrees st' (put w s None)
  closed-written w agrees = subst (λ xs. WrittenAgrees (record st { sessions = xs }) (put w s None)) (sym (ap (λ (x : State). x.sessions) closes.is)) (written-ends st w s e at agrees)

  -- the pages stay
  closed-with : (w' : World) → relation.HeapAgrees (with_pages st' st.heap.pages) w' → relation.HeapAgrees (seen st') w'
  closed-with w' found = subst (λ pages. relation.HeapAgrees (with_pages st' pages) w') (sym (ap (λ (x : State). x.heap.pages) closes.is)) found

pub Follows-abort : (st st' : State) (s : ℕ) (e : Session) → session_at st s ≡ Some e → Closes st st' s Aborted → Follows st (step.Abort s) reply.RolledBack st'
Follows-abort st st' s e at closes w agrees =
    let f = theory.Follows-abort (seen st) s (reader_of e) (seen st').status (seen st').sees (seen st').session (only-closes st st' s e Aborted at closes) (reader-is st s e at)
    (own-finishes st st' s e Aborted at closes) (same-sights st st' s e Aborted at closes) w agrees.found in
    let sound' = aborts-sound st st' s e w at closes agrees in
    (f.0, agree agrees (same-used st.heap.indexes st'.heap.indexes (ap (λ (x : State). x.heap.indexes) closes.is)) (closed-marks st st' s e Aborted at closes) (unmade refl refl) (closed-written st st' s e Aborted at closes w agrees) (closed-with st st' s e Aborted at closes (next w (step.Abort s) reply.RolledBack) f.1) sound'.0, sound'.1)

pub Follows-commit_failed : (st st' : State) (s : ℕ) (e : Session) → session_at st s ≡ Some e → e.failed ≡ true → Closes st st' s Aborted → Follows st (step.Commit s) reply.RolledBack st'
Follows-commit_failed st st' s e at failed closes w agrees =
    let f = theory.Follows-commit_failed (seen st) s (reader_of e) (seen st').status (seen st').sees (seen st').session (only-closes st st' s e Aborted at closes) (reader-is st s e at) failed
    (own-finishes st st' s e Aborted at closes) (same-sights st st' s e Aborted at closes) w agrees.found in
    let sound' = aborts-sound st st' s e w at closes agrees in
    (f.0, agree agrees (same-used st.heap.indexes st'.heap.indexes (ap (λ (x : State). x.heap.indexes) closes.is)) (closed-marks st st' s e Aborted at closes) (unmade refl refl) (closed-written st st' s e Aborted at closes w agrees) (closed-with st st' s e Aborted at closes (next w (step.Commit s) reply.RolledBack) f.1) sound'.0, sound'.1)

pub Follows-commit : (st st' : State) (s : ℕ) (e : Session) → session_at st s ≡ Some e → e.failed ≡ false → Closes st st' s Committed → Follows st (step.Commit s) reply.Committed st'
Follows-commit st st' s e at sound closes w agrees =
    let f = theory.Follows-commit (seen st) s (reader_of e) (seen st').status (seen st').sees (seen st').session (only-closes st st' s e Committed at closes) (reader-is st s e at) sound
    (own-finishes st st' s e Committed at closes) (same-sights st st' s e Committed at closes) (λ snap x. decided snap st.heap.statuses x) w agrees.found in
    let sound' = commits-sound st st' s e w at closes agrees in
    (f.0, agree agrees (same-used st.heap.indexes st'.heap.indexes (ap (λ (x : State). x.heap.indexes) closes.is)) (closed-marks st st' s e Committed at closes) (unmade refl refl) (closed-written st st' s e Committed at closes w agrees) (closed-with st st' s e Committed at closes (next w (step.Commit s) reply.Committed) f.1) sound'.0, sound'.1)

-- Writes that are refused before they are tried.

pub Follows-barred_write : (st : State) (s : ℕ) (write : WriteStep) (r : Refusal) → BarsFree (engine_sessions st) s r → Follows st (step_of s write) (reply.Refused r) st
Follows-barred_write st s write r is = Follows-same st (step_of s write) (reply.Refused r) (is_refused s write r) (hindrances.Follows-barred_write (seen st) s write r (free_by st s r is))

pub Follows-too_large : (st : State) (s : ℕ) (e : Session) (write : WriteStep) → session_at st s ≡ Some e → e.failed ≡ false → e.cursor ≡ None → hindrances.IsTooLarge write
    → Follows st (step_of s write) (reply.Refused refusal.TooLarge) st
Follows-too_large st s e write at sound bare large =
    Follows-same st (step_of s write) (reply.Refused refusal.TooLarge) (is_refused s write refusal.TooLarge) (hindrances.Follows-too_large (seen st) s (reader_of e) write (reader-is st s e at) sound (ap position_of bare) large)

-- a session that holds back what it held back
pub same-back : (xs : List (Option Session)) (s : ℕ) (e now : Session) → open_at xs s ≡ Some e → holds_back now ≡ holds_back e → held_back (set xs s (Some now)) ≡ held_back xs
same-back [] s e now at same = absurd (none-some e at)
same-back (None ∷ xs) zero e now at same = absurd (none-some e at)
same-back (Some f ∷ xs) zero e now at same = ap (λ back. back ++ held_back xs) (same ∙ ap holds_back (sym (same_Some f e at)))
same-back (None ∷ xs) (suc s) e now at same = same-back xs s e now at same
same-back (Some f ∷ xs) (suc s) e now at same = ap (λ ys. holds_back f ++ ys) (same-back xs s e now at same)

-- a session becomes another
pub Sound-put : (st : State) (s : ℕ) (e now : Session) → session_at st s ≡ Some e → SessionKeeps st.heap.statuses now → SessionScans st.heap.statuses st.heap.indexes now → Sound st → Sound (put_session st s (Some now))
Sound-put st s e now at keeps scans sound = record {
  count = length-set st.sessions s (Some now) ∙ sound.count;
  max_pages = sound.max_pages;
  stop_age = sound.stop_age;
  window = sound.window;
  sessions = λ o f bt. elim (open-set_cases st.sessions s o (Some now) f (open-within st.sessions s e at) bt) [
    | inl is ↦ subst (λ f. SessionKeeps st.heap.statuses f) (same_Some now f is.1) keeps
    | inr other ↦ sound.sessions o f other.1
  ];
  tops = sound.tops;
  by_key = sound.by_key;
  since = sound.since;
  scans = scans-put st.heap.statuses st.heap.indexes st.sessions s now (open-within st.sessions s e at) scans sound.scans;
  table = sound.table;
}

pub Sound-fails : (st : State) (s : ℕ) (e : Session) → session_at st s ≡ Some e → Sound st → Sound (put_session st s (option_map failed_session (session_at st s)))
Sound-fails st s e at sound =
    let h = sound.sessions s e at in
    subst (λ o. Sound (put_session st s (option_map failed_session o))) (sym at)
    (Sound-put st s e (failed_session e) at (record { snapshot = h.snapshot; for_cursor = h.for_cursor; topmost = h.topmost; prefixes = h.prefixes; distinct = h.distinct }) (scans-as st.heap.statuses st.heap.indexes e (failed_session e) refl refl refl (sound.scans s e at)) sound)

-- where what is noted of the pages holds, a cursor too follows the history
pub by-notes : (old : State) (step : Step) (r : Reply) (new : State) → FollowsByNotes old step r new → NotesHold old → Follows old step r new
by-notes old (step.Next s n) r new follows hold = follows hold
by-notes old _ r new follows hold = follows
