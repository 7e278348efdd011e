-- To believe, 4 of 5 (docs/reading.md).
-- Which replies the history allows to a step, and what the world is after each.
use Rattle.std.specs.Prelude.{◌≡◌, ℕ, suc, ◌-◌, ◌<◌, ◌≤◌, List, [], ◌∷◌, length, Option, Some, None, Bool, true, false, IsSome, ◌<ℤ◌, ◌≤ℤ◌}
use Rattle.history.specs.History.{IsLate}
use Rattle.history.specs.World.{World, OpenSession, Cursor, by_statement, beginning, start_now, view, SomeoneHasWritten, LacksIndex, MayIndex, MayScan, ClosesRing, IsReady, IsWriter, MayWrite, IsBlocked, world_sessions, by_index, by_heap, by_keys, by_snapshot}
use Rattle.history.specs.Cursors.{AreOf, keys_of, IsOver, HandsOutPart, HandsOutKeys, rows_within}
use Rattle.history.specs.Moves.{stepped, begun, blocked_by, change, as_failed, with_savepoint, rolled_back_to, without_savepoint, aborted, committed_by, with_taken, without_cursor, with_index_on, with_vacuum, opened, with_write}
use Rattle.history.specs.Laws.{FirstCommitterWins, HeldInTime, HeldOnce, HoldersHaveWritten}
use Rattle.calls.specs.declared.step.Step.{Step}
use Rattle.calls.specs.declared.step.Step.TheVariants as step
use Rattle.calls.specs.declared.reply.Reply.{Reply}
use Rattle.calls.specs.declared.reply.Reply.TheVariants as reply
use Rattle.calls.specs.declared.reply.Refusal.{Refusal}
use Rattle.calls.specs.declared.reply.Refusal.TheVariants as refusal
use Rattle.calls.specs.Steps.{session_of}
use Rattle.calls.specs.Words.{FitsRow, row_of}
use Rattle.calls.specs.Writes.{WriteStep, inserts, updates, deletes, key_of, Asks}
use Rattle.calls.specs.Bars.{BarsOpen, BarsReady, BarsFree, BarsWithCursor}
use Rattle.calls.specs.declared.step.TheConstants.{MOST_SESSIONS}
use Rattle.snapshot.specs.declared.own.TheConstants.{MOST_SAVEPOINTS}
use Rattle.tuple_header.specs.declared.version.TheConstants.{COLUMNS, MOST_BODY}

-- what the session reads of the key is what the write asks for, and nothing keeps it from the write
abbrev pub AllowsWrite : World → ℕ → WriteStep → Type 0
AllowsWrite w s write = (m : OpenSession) × Asks write (view w.history m (key_of write)) × MayWrite w s (key_of write) m

-- the session is barred from the write, or the write does not suit it: its row is too large, or the key has a row already, or has none
abbrev pub AllowsUnsuited : World → ℕ → Refusal → WriteStep → Type 0
AllowsUnsuited w s refusal.TooLarge (inserts row) = (m : OpenSession) × IsWriter w s m × (MOST_BODY < length row.body)
AllowsUnsuited w s refusal.TooLarge (updates row) = (m : OpenSession) × IsWriter w s m × (MOST_BODY < length row.body)
AllowsUnsuited w s refusal.AlreadyThere (inserts row) = (m : OpenSession) × IsWriter w s m × FitsRow row × IsSome (view w.history m row.key)
AllowsUnsuited w s refusal.NotThere (updates row) = (m : OpenSession) × IsWriter w s m × FitsRow row × (view w.history m row.key ≡ None)
AllowsUnsuited w s refusal.NotThere (deletes k) = (m : OpenSession) × IsWriter w s m × (view w.history m k ≡ None)
AllowsUnsuited w s refusal write = BarsFree (world_sessions w) s refusal

-- Or it does suit it, but something keeps it from being made. A commit since the snapshot by which the session reads or
-- another open session has written the key, or there is no id, no room or no memory for it
abbrev pub AllowsHindered : World → ℕ → Refusal → WriteStep → Type 0
AllowsHindered w s refusal.Conflict write = (m : OpenSession) × IsWriter w s m × Asks write (view w.history m (key_of write)) × IsLate w.history (start_now w.history m) (key_of write)
AllowsHindered w s (refusal.Busy o) write = (m : OpenSession) × Asks write (view w.history m (key_of write)) × IsBlocked w s (key_of write) o m
AllowsHindered w s refusal.NeedsFreeze write = AllowsWrite w s write
AllowsHindered w s refusal.NoRoom (deletes k) = ⊥
AllowsHindered w s refusal.NoRoom write = AllowsWrite w s write
AllowsHindered w s refusal.NoMemory write = AllowsWrite w s write
AllowsHindered w s refusal write = AllowsUnsuited w s refusal write

-- how many savepoints the session has: each begins a level above its first
abbrev pub savepoints : OpenSession → ℕ
savepoints m = length m.levels - 1

-- the history allows the reply to the step
abbrev pub Allows : World → Step → Reply → Type 0
Allows w (step.Begin s) reply.Done = (s < MOST_SESSIONS) × (w.session s ≡ None)
Allows w (step.Begin s) (reply.Refused refusal.NoSuchSession) = MOST_SESSIONS ≤ s
Allows w (step.Begin s) (reply.Refused refusal.AlreadyOpen) = (m : OpenSession) × (w.session s ≡ Some m) × (s < MOST_SESSIONS)
Allows w (step.Begin s) (reply.Refused refusal.NoMemory) = (s < MOST_SESSIONS) × (w.session s ≡ None)
Allows w (step.BeginReadCommitted s) reply.Done = (s < MOST_SESSIONS) × (w.session s ≡ None)
Allows w (step.BeginReadCommitted s) (reply.Refused refusal.NoSuchSession) = MOST_SESSIONS ≤ s
Allows w (step.BeginReadCommitted s) (reply.Refused refusal.AlreadyOpen) = (m : OpenSession) × (w.session s ≡ Some m) × (s < MOST_SESSIONS)
Allows w (step.Get s k) (reply.Found row) = (m : OpenSession) × IsReady w s m × (row ≡ view w.history m k)
Allows w (step.Get s k) (reply.Refused refusal) = BarsReady (world_sessions w) s refusal
Allows w (step.Insert s row) reply.Done = AllowsWrite w s (inserts row)
Allows w (step.Insert s row) (reply.Refused refusal) = AllowsHindered w s refusal (inserts row)
Allows w (step.Update s row) reply.Done = AllowsWrite w s (updates row)
Allows w (step.Update s row) (reply.Refused refusal) = AllowsHindered w s refusal (updates row)
Allows w (step.Delete s k) reply.Done = AllowsWrite w s (deletes k)
Allows w (step.Delete s k) (reply.Refused refusal) = AllowsHindered w s refusal (deletes k)
Allows w (step.Savepoint s) reply.Done = (m : OpenSession) × IsWriter w s m × (savepoints m < MOST_SAVEPOINTS)
Allows w (step.Savepoint s) (reply.Refused refusal.TooDeep) = (m : OpenSession) × IsWriter w s m × (MOST_SAVEPOINTS ≤ savepoints m)
Allows w (step.Savepoint s) (reply.Refused refusal.NoMemory) = (m : OpenSession) × IsWriter w s m × (savepoints m < MOST_SAVEPOINTS)
Allows w (step.Savepoint s) (reply.Refused refusal) = BarsFree (world_sessions w) s refusal
Allows w (step.RollbackTo s) reply.Done = (m : OpenSession) × (w.session s ≡ Some m) × (m.cursor ≡ None) × (0 < savepoints m)
Allows w (step.RollbackTo s) (reply.Refused refusal.CursorOpen) = (m : OpenSession) × (w.session s ≡ Some m) × IsSome m.cursor
Allows w (step.RollbackTo s) (reply.Refused refusal.NoSavepoint) = (m : OpenSession) × (w.session s ≡ Some m) × (m.cursor ≡ None) × (savepoints m ≡ 0)
Allows w (step.RollbackTo s) (reply.Refused refusal) = BarsOpen (world_sessions w) s refusal
Allows w (step.Release s) reply.Done = (m : OpenSession) × IsWriter w s m × (0 < savepoints m)
Allows w (step.Release s) (reply.Refused refusal.NoSavepoint) = (m : OpenSession) × IsWriter w s m × (savepoints m ≡ 0)
Allows w (step.Release s) (reply.Refused refusal) = BarsFree (world_sessions w) s refusal
Allows w (step.Commit s) reply.Committed = (m : OpenSession) × IsReady w s m
Allows w (step.Commit s) reply.RolledBack = (m : OpenSession) × (w.session s ≡ Some m) × (m.failed ≡ true)
Allows w (step.Commit s) (reply.Refused refusal) = BarsOpen (world_sessions w) s refusal
Allows w (step.Abort s) reply.RolledBack = (m : OpenSession) × (w.session s ≡ Some m)
Allows w (step.Abort s) (reply.Refused refusal) = BarsOpen (world_sessions w) s refusal
Allows w (step.OpenIndex s index low high) reply.Done = (m : OpenSession) × IsWriter w s m × MayScan w s index × (low ≤ℤ high)
Allows w (step.OpenIndex s index low high) (reply.Refused refusal.NoSuchIndex) = (m : OpenSession) × IsWriter w s m × (w.has_index index ≡ false)
Allows w (step.OpenIndex s index low high) (reply.Refused refusal.IndexTooNew) = (m : OpenSession) × IsWriter w s m × (w.has_index index ≡ true) × (w.too_new s index ≡ true)
Allows w (step.OpenIndex s index low high) (reply.Refused refusal.BadBounds) = (m : OpenSession) × IsWriter w s m × MayScan w s index × (high <ℤ low)
Allows w (step.OpenIndex s index low high) (reply.Refused refusal.NoMemory) = (m : OpenSession) × IsWriter w s m × MayScan w s index × (low ≤ℤ high) × (m.isolation ≡ by_statement)
Allows w (step.OpenIndex s index low high) (reply.Refused refusal) = BarsFree (world_sessions w) s refusal
Allows w (step.OpenHeap s) reply.Done = (m : OpenSession) × IsWriter w s m
Allows w (step.OpenHeap s) (reply.Refused refusal.NoMemory) = (m : OpenSession) × IsWriter w s m × (m.isolation ≡ by_statement)
Allows w (step.OpenHeap s) (reply.Refused refusal) = BarsFree (world_sessions w) s refusal
Allows w (step.OpenKeys s low high) reply.Done = (m : OpenSession) × IsWriter w s m × (low ≤ℤ high)
Allows w (step.OpenKeys s low high) (reply.Refused refusal.BadBounds) = (m : OpenSession) × IsWriter w s m × (high <ℤ low)
Allows w (step.OpenKeys s low high) (reply.Refused refusal.NoMemory) = (m : OpenSession) × IsWriter w s m × (low ≤ℤ high) × (m.isolation ≡ by_statement)
Allows w (step.OpenKeys s low high) (reply.Refused refusal) = BarsFree (world_sessions w) s refusal
Allows w (step.Next s n) (reply.Rows rows) = (m : OpenSession) × (c : Cursor) × IsReady w s m × (m.cursor ≡ Some c) × HandsOutPart c.order n c.rest rows.items
Allows w (step.Next s n) (reply.Keys keys) = (m : OpenSession) × (c : Cursor) × IsReady w s m × (m.cursor ≡ Some c) × HandsOutKeys c.order n c.rest keys.items
Allows w (step.Next s n) reply.End = (m : OpenSession) × (c : Cursor) × IsReady w s m × (m.cursor ≡ Some c) × IsOver c.rest
Allows w (step.Next s n) (reply.Refused refusal.NoMemory) = (m : OpenSession) × (c : Cursor) × IsReady w s m × (m.cursor ≡ Some c) × (¬ IsOver c.rest)
Allows w (step.Next s n) (reply.Refused refusal) = BarsWithCursor (world_sessions w) s refusal
Allows w (step.Close s) reply.Done = (m : OpenSession) × IsReady w s m × IsSome m.cursor
Allows w (step.Close s) (reply.Refused refusal) = BarsWithCursor (world_sessions w) s refusal
Allows w (step.TakePage s p) (reply.Rows rows) = (m : OpenSession) × IsReady w s m × AreOf (view w.history m) rows.items
Allows w (step.TakePage s p) (reply.Refused refusal.NoSuchPage) = (m : OpenSession) × IsReady w s m
Allows w (step.TakePage s p) (reply.Refused refusal.NoMemory) = (m : OpenSession) × IsReady w s m
Allows w (step.TakePage s p) (reply.Refused refusal) = BarsReady (world_sessions w) s refusal
Allows w (step.Prune p) reply.Done = Unit {0}
Allows w (step.Prune p) (reply.Refused refusal.NoSuchPage) = Unit {0}
Allows w (step.ApplyPlan p plan) reply.Done = Unit {0}
Allows w (step.ApplyPlan p plan) (reply.Refused refusal.NoSuchPage) = Unit {0}
Allows w (step.ApplyPlan p plan) (reply.Refused refusal.Stale) = Unit {0}
Allows w (step.VacuumBegin mode) reply.Done = w.has_vacuum ≡ false
Allows w (step.VacuumBegin mode) (reply.Refused refusal.VacuumRunning) = w.has_vacuum ≡ true
Allows w step.VacuumStep (reply.Worked piece) = w.has_vacuum ≡ true
Allows w step.VacuumStep (reply.Ended first) = w.has_vacuum ≡ true
Allows w step.VacuumStep (reply.Refused refusal.NoVacuum) = w.has_vacuum ≡ false
Allows w step.VacuumCancel reply.Done = w.has_vacuum ≡ true
Allows w step.VacuumCancel (reply.Refused refusal.NoVacuum) = w.has_vacuum ≡ false
Allows w (step.CreateIndex c) reply.Done = MayIndex w c × (w.has_index (suc c) ≡ false → w.has_vacuum ≡ false)
Allows w (step.CreateIndex c) (reply.Refused refusal.NoSuchIndex) = COLUMNS ≤ c
Allows w (step.CreateIndex c) (reply.Refused refusal.VacuumRunning) = LacksIndex w c × (w.has_vacuum ≡ true)
Allows w (step.CreateIndex c) (reply.Refused refusal.IndexBusy) = LacksIndex w c × (w.has_vacuum ≡ false) × SomeoneHasWritten w
Allows w (step.CreateIndex c) (reply.Refused refusal.NoMemory) = LacksIndex w c × (w.has_vacuum ≡ false) × (¬ SomeoneHasWritten w)
Allows w step reply = ⊥

-- what a step of a session makes of the world; one that is no session's leaves it as it is
abbrev pub by_its_session : World → (ℕ → World) → Option ℕ → World
by_its_session w made None = w
by_its_session w made (Some s) = made s

-- after a refused write: a conflict makes the session fail
abbrev pub after_refused_write : World → ℕ → Refusal → World
after_refused_write w s refusal.Conflict = change w s as_failed
after_refused_write w s refusal = stepped w s

-- the world after the reply. A step that reads or is refused only ends its session's own wait. Cleaning leaves the world as it is, but
-- for whether a vacuum runs
abbrev pub next : World → Step → Reply → World
next w (step.Begin s) reply.Done = begun (by_snapshot (length w.history)) w s
next w (step.BeginReadCommitted s) reply.Done = begun by_statement w s
next w (step.Insert s row) reply.Done = change w s (with_write w.history (row_of row).key (Some (row_of row)))
next w (step.Insert s row) (reply.Refused refusal) = after_refused_write w s refusal
next w (step.Update s row) reply.Done = change w s (with_write w.history (row_of row).key (Some (row_of row)))
next w (step.Update s row) (reply.Refused refusal) = after_refused_write w s refusal
next w (step.Delete s k) reply.Done = change w s (with_write w.history k None)
next w (step.Delete s k) (reply.Refused refusal) = after_refused_write w s refusal
next w (step.Savepoint s) reply.Done = change w s with_savepoint
next w (step.RollbackTo s) reply.Done = rolled_back_to w s
next w (step.Release s) reply.Done = change w s without_savepoint
next w (step.Commit s) reply.Committed = committed_by w s
next w (step.Commit s) reply.RolledBack = aborted w s
next w (step.Abort s) reply.RolledBack = aborted w s
next w (step.OpenIndex s index low high) reply.Done = change w s (opened w.history (by_index index) (rows_within index low high))
next w (step.OpenHeap s) reply.Done = change w s (opened w.history by_heap (λ rows. rows))
next w (step.OpenKeys s low high) reply.Done = change w s (opened w.history by_keys (rows_within 0 low high))
next w (step.Next s n) (reply.Rows rows) = change w s (with_taken (keys_of rows.items))
next w (step.Next s n) (reply.Keys keys) = change w s (with_taken keys.items)
next w (step.Close s) reply.Done = change w s without_cursor
next w (step.VacuumBegin mode) reply.Done = with_vacuum true w
next w step.VacuumStep (reply.Ended first) = with_vacuum false w
next w step.VacuumCancel reply.Done = with_vacuum false w
next w (step.CreateIndex c) reply.Done = with_index_on w c
next w step reply = by_its_session w (stepped w) (session_of step)

-- Who waits for whom. All that is said above is so whoever waits. Where another open session holds the key, the session waits for
-- it, unless that wait would close a ring: then the answer is Deadlock, and the session has failed
abbrev pub AllowsReply : World → Step → Reply → Type 0
AllowsReply w step (reply.Refused (refusal.Busy o)) = Allows w step (reply.Refused (refusal.Busy o))
    × ((s : ℕ) → session_of step ≡ Some s → ¬ ClosesRing w.waits_for s o)
AllowsReply w step (reply.Refused refusal.Deadlock) = (s o : ℕ) × (session_of step ≡ Some s)
    × Allows w step (reply.Refused (refusal.Busy o)) × ClosesRing w.waits_for s o
AllowsReply w step reply = Allows w step reply

-- the world after the reply, and who waits then: the session waits for o, or it has failed by a deadlock
abbrev pub after_reply : World → Step → Reply → World
after_reply w step (reply.Refused (refusal.Busy o)) = by_its_session w (λ s. blocked_by w s o) (session_of step)
after_reply w step (reply.Refused refusal.Deadlock) = by_its_session w (λ s. change w s as_failed) (session_of step)
after_reply w step reply = next w step reply

-- the history allows the replies to the steps, one after another
abbrev pub IsRun : World → List Step → List Reply → Type 0
IsRun w [] [] = Unit {0}
IsRun w (step ∷ steps) (reply ∷ replies) = AllowsReply w step reply × IsRun (after_reply w step reply) steps replies
IsRun w steps replies = ⊥

-- the world after them
abbrev pub after : World → List Step → List Reply → World
after w (step ∷ steps) (reply ∷ replies) = after (after_reply w step reply) steps replies
after w steps replies = w

-- what is so of the world after any run from a beginning
pub record IsLawful (w : World) : Type 0 where
  pub first_committer_wins : FirstCommitterWins w.history
  pub held_in_time : HeldInTime w
  pub held_once : HeldOnce w
  pub holders_have_written : HoldersHaveWritten w

abbrev pub RunsAreLawful : Type 0
RunsAreLawful = (columns : List Bool) (steps : List Step) (replies : List Reply) → IsRun (beginning columns) steps replies
    → IsLawful (after (beginning columns) steps replies)
