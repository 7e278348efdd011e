-- What the history leaves to an engine. That is what a write does to its own ids and pages, and when it finds no id, no room
-- or no memory. It is also what a refusal leaves as it was.
use Rattle.std.specs.Prelude.{◌≡◌, ℕ, ◌<◌, ◌≤◌, ◌∷◌, length, Bool, true, false, Option, Some, None, IsSome, Result, Ok, Err, slice_set}
use Rattle.std.specs.Option.{option_map}
use Rattle.xid_circle.specs.declared.Tid.{Tid}
use Rattle.commit_status.specs.declared.status.Status.TheVariants as status
use Rattle.commit_status.specs.Window.{next_id}
use Rattle.snapshot.specs.Own.{Own, older}
use Rattle.snapshot.specs.Snap.{Snap, taken}
use Rattle.prune.specs.Checks.{Checks}
use Rattle.heap_write.specs.Heap.{page_on}
use Rattle.heap_write.specs.Writes.{Prunes, Applies}
use Rattle.heap_write.specs.declared.heap.WriteFault.{WriteFault}
use Rattle.heap_write.specs.declared.heap.WriteFault.TheVariants as fault
use Rattle.calls.specs.declared.step.Step.{Step}
use Rattle.calls.specs.declared.step.Step.TheVariants as step
use Rattle.calls.specs.declared.reply.Reply.{Reply}
use Rattle.calls.specs.declared.reply.Reply.TheVariants as reply
use Rattle.calls.specs.declared.reply.Refusal.TheVariants as refusal
use Rattle.calls.specs.Words.{PlanToApply}
use Rattle.calls.specs.Writes.{WriteStep, inserts, updates, deletes}
use Rattle.refinement.specs.Cursors.{heap_start}
use Rattle.sessions.specs.declared.session.Session.{Session}
use Rattle.sessions.specs.declared.session.SessionIsolation.TheVariants.{BySnapshot, ByStatement}
use Rattle.table_scans.specs.declared.progress.CursorScan.{CursorScan}
use Rattle.table_scans.specs.declared.progress.CursorScan.TheVariants.{Rows, Keys}
use Rattle.table_scans.specs.declared.progress.Scan.TheVariants.{Index, Heap}
use Rattle.session_steps.specs.State.{State, session_at, engine_index, put_session, with_cursor, refused_state, horizon_of}
use Rattle.sessions.specs.Session.{IsByStatement, is_too_new, keeping, owns_of}
use Rattle.session_steps.specs.Agrees.{FollowsByNotes}
use Rattle.session_steps.specs.Changes.{Opens, Closes, SavepointsBecome, RollsBack}
use Rattle.session_steps.specs.Takes.{HandsOut, HandsOutByKeys}
use Rattle.session_steps.specs.Tests.{MayAct, MayTry}
use Rattle.session_steps.specs.Tickets.{SeesOnPage, RefusesRows}
use Rattle.session_steps.specs.Writes.{TriesWrite}

-- the session tried to write, as it may: nothing but the heap and its own ids changes
pub record WriteTried (old new : State) (s : ℕ) (write : WriteStep) (outcome : Result (Unit {0}) WriteFault) : Type 0 where
  pub session : Session
  pub acts : MayAct old s session
  pub place : Tid
  pub may : MayTry old session write place
  pub own : Own
  pub is : new ≡ record { settings = old.settings; heap = new.heap; sessions = slice_set old.sessions s (Some (record session { own = own })) }
  pub tried : TriesWrite write place (horizon_of old) old.heap new.heap session.own own outcome

-- A conflict makes the session fail, and any other refusal before the write is tried leaves all as it was.
abbrev pub ExactWrite : State → ℕ → WriteStep → Reply → State → Type 0
ExactWrite old s write reply.Done new = WriteTried old new s write (Ok tt)
ExactWrite old s write (reply.Refused refusal.NeedsFreeze) new = WriteTried old new s write (Err fault.NeedsFreeze)
ExactWrite old s write (reply.Refused refusal.NoRoom) new = WriteTried old new s write (Err fault.NoRoom)
ExactWrite old s write (reply.Refused refusal.NoMemory) new = WriteTried old new s write (Err fault.NoMemory)
ExactWrite old s write (reply.Refused refusal) new = new ≡ refused_state old s refusal
ExactWrite old s write reply new = ⊥

-- one page is pruned at the horizon, and nothing else changes
pub record Cleans (old new : State) (p : ℕ) : Type 0 where
  pub is : new ≡ record old { heap = new.heap }
  pub heap : Prunes old.heap new.heap p (horizon_of old)

-- a plan that checks at the horizon is applied to one page, and nothing else changes
pub record AppliesPlan (old new : State) (p : ℕ) (plan : PlanToApply) : Type 0 where
  pub is : new ≡ record old { heap = new.heap }
  pub heap : Applies old.heap new.heap p (horizon_of old) plan.change plan.actions

-- the snapshot that is taken now
abbrev pub snapshot_of : State → Snap
snapshot_of st = taken (next_id st.heap.statuses) (owns_of st.sessions)

-- it lists more ids than it holds without memory
abbrev pub MustList : State → Type 0
MustList st = 8 < length (snapshot_of st).listed

-- it has set four savepoints or more, and no further one can be set without memory
abbrev pub MustNote : State → ℕ → Type 0
MustNote st s = (e : Session) × (session_at st s ≡ Some e) × (4 ≤ length e.own.saved) × (e.own.spare_marks ≡ 0)

-- the session reads by statement, and the snapshot that its cursor needs lists more ids than it holds without memory
abbrev pub MustKeep : State → ℕ → Type 0
MustKeep st s = (e : Session) × (session_at st s ≡ Some e) × IsByStatement e.isolation × MustList st

-- whether an index is too new for the session, which is open
abbrev pub HasScanMark : State → (s number : ℕ) → Bool → Type 0
HasScanMark st s number mark = (e : Session) × (session_at st s ≡ Some e) × (is_too_new e number ≡ mark)

-- the session has this cursor now, or none, and nothing else changes
abbrev pub MovesCursor : State → State → ℕ → Option CursorScan → Type 0
MovesCursor old new s cursor = new ≡ put_session old s (option_map (with_cursor cursor) (session_at old s))

-- it has this cursor now, or none, and by statement it keeps this snapshot, or none; nothing else changes
abbrev pub HasCursor : State → State → ℕ → Option CursorScan → Option Snap → Type 0
HasCursor old new s cursor kept = new ≡ put_session old s (option_map (λ (e : Session). record e { isolation = keeping kept e.isolation; cursor = cursor }) (session_at old s))

-- a cursor is opened: by statement the session keeps the snapshot that is taken now
abbrev pub OpensCursor : State → State → ℕ → CursorScan → Type 0
OpensCursor old new s cursor = HasCursor old new s (Some cursor) (Some (snapshot_of old))

-- Beside what the history says of a reply. A read and a refusal leave all as it was, but for a page that an update has pruned. A
-- beginning takes no id, and by snapshot the snapshot of that moment. An end gives its status to the session's ids, and no others.
-- Neither changes a page, nor do savepoints. A return to one aborts the ids that were given since, and no others. A step of a cursor
-- changes that cursor alone, but by statement a snapshot is kept from its opening to its closing. Memory is refused only where something
-- has to grow. It is never refused to a prune or a plan, a beginning by statement or the opening of a cursor by snapshot. (That no read,
-- return, release, closing, commit or abort is refused memory is said by what the history allows.)
abbrev pub Exact : State → Step → Reply → State → Type 0
Exact old (step.Begin s) reply.Done new = Opens old new s (BySnapshot (snapshot_of old))
Exact old (step.Begin s) (reply.Refused refusal.NoMemory) new = MustList old × (new ≡ old)
Exact old (step.BeginReadCommitted s) reply.Done new = Opens old new s (ByStatement None)
Exact old (step.BeginReadCommitted s) (reply.Refused refusal.NoMemory) new = ⊥
Exact old (step.Insert s row) reply new = ExactWrite old s (inserts row) reply new
Exact old (step.Update s row) reply new = ExactWrite old s (updates row) reply new
Exact old (step.Delete s key) reply new = ExactWrite old s (deletes key) reply new
Exact old (step.Get s key) reply new = new ≡ old
Exact old (step.Savepoint s) reply.Done new = SavepointsBecome old new s (λ own. own.ids ∷ own.saved)
Exact old (step.Savepoint s) (reply.Refused refusal.NoMemory) new = MustNote old s × (new ≡ old)
Exact old (step.RollbackTo s) reply.Done new = RollsBack old new s
Exact old (step.Release s) reply.Done new = SavepointsBecome old new s (λ own. older own.saved)
Exact old (step.OpenIndex s index low high) reply.Done new = OpensCursor old new s (Rows (Index (record { index = index; low = low; high = high; last = None })))
Exact old (step.OpenIndex s index low high) (reply.Refused refusal.NoSuchIndex) new = (engine_index old index ≡ None) × (new ≡ old)
Exact old (step.OpenIndex s index low high) (reply.Refused refusal.IndexTooNew) new = IsSome (engine_index old index) × HasScanMark old s index true × (new ≡ old)
Exact old (step.OpenIndex s index low high) (reply.Refused refusal.BadBounds) new = IsSome (engine_index old index) × HasScanMark old s index false × (new ≡ old)
Exact old (step.OpenIndex s index low high) (reply.Refused refusal.NoMemory) new = MustKeep old s × (new ≡ old)
Exact old (step.OpenHeap s) reply.Done new = OpensCursor old new s (Rows (Heap heap_start))
Exact old (step.OpenHeap s) (reply.Refused refusal.NoMemory) new = MustKeep old s × (new ≡ old)
Exact old (step.OpenKeys s low high) reply.Done new = OpensCursor old new s (Keys (record { low = low; high = high; last = None }))
Exact old (step.OpenKeys s low high) (reply.Refused refusal.NoMemory) new = MustKeep old s × (new ≡ old)
Exact old (step.Next s n) (reply.Rows rows) new = HandsOut old new s n rows.items
Exact old (step.Next s n) (reply.Keys keys) new = HandsOutByKeys old new s n keys.items
Exact old (step.Next s n) reply.End new = new ≡ old
Exact old (step.Close s) reply.Done new = HasCursor old new s None None
Exact old (step.TakePage s p) (reply.Rows rows) new = SeesOnPage old s p rows.items × (new ≡ old)
Exact old (step.TakePage s p) (reply.Refused refusal) new = RefusesRows old s p refusal × (new ≡ old)
Exact old (step.Commit s) reply.Committed new = Closes old new s status.Committed
Exact old (step.Commit s) reply.RolledBack new = Closes old new s status.Aborted
Exact old (step.Abort s) reply.RolledBack new = Closes old new s status.Aborted
Exact old (step.Prune p) reply.Done new = Cleans old new p
Exact old (step.Prune p) (reply.Refused refusal.NoSuchPage) new = (length old.heap.pages.pages ≤ p) × (new ≡ old)
Exact old (step.Prune p) (reply.Refused refusal.NoMemory) new = ⊥
Exact old (step.ApplyPlan p plan) reply.Done new = AppliesPlan old new p plan
Exact old (step.ApplyPlan p plan) (reply.Refused refusal.NoSuchPage) new = (length old.heap.pages.pages ≤ p) × (new ≡ old)
Exact old (step.ApplyPlan p plan) (reply.Refused refusal.Stale) new = ((p < length old.heap.pages.pages) × ¬ Checks old.heap.statuses (horizon_of old) (page_on old.heap p) plan.change plan.actions) × (new ≡ old)
Exact old (step.ApplyPlan p plan) (reply.Refused refusal.NoMemory) new = ⊥
Exact old step (reply.Refused refusal) new = new ≡ old
Exact old step reply new = ⊥

-- The step is answered. Whatever world the engine agreed with, the history allows the reply (of a cursor, where what is noted of the
-- pages holds). The rest is as above.
pub record AnswersStep (old : State) (step : Step) (reply : Reply) (new : State) : Type 0 where
  pub follows : FollowsByNotes old step reply new
  pub exact : Exact old step reply new
