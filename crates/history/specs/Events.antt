-- What may happen in a world, step by step, and what comes of it.
use Rattle.std.specs.Prelude.{◌≡◌, ℕ, ◌<◌, ◌≤◌, List, length, Some, None, IsSome, true, false, ℤ, ◌≤ℤ◌}
use Rattle.tuple_header.specs.declared.version.Row.{Row}
use Rattle.history.specs.History.{IsLate}
use Rattle.history.specs.World.{World, OpenSession, Cursor, start_now, view, SomeoneHasWritten, ClosesRing, MayScan, IsReady, IsWriter, MayWrite, IsBlocked, by_index, by_heap, by_keys, by_snapshot, by_statement}
use Rattle.history.specs.Cursors.{HandsOutPart, HandsOutKeys, keys_of, rows_within}
use Rattle.history.specs.Moves.{stepped, change, begun, as_failed, blocked_by, with_savepoint, rolled_back_to, without_savepoint, aborted, committed_by, with_taken, without_cursor, with_made_index, with_vacuum, opened, with_write}
use Rattle.calls.specs.declared.step.TheConstants.{MOST_SESSIONS}

-- a step of the session s leads from the world w to another. A step that reads, or that is refused and leaves the
-- session usable, only passes
pub data Happens (w : World) (s : ℕ) : World → Type 0 where
  passes : Happens w s (stepped w s)
  begins : s < MOST_SESSIONS → w.session s ≡ None → Happens w s (begun (by_snapshot (length w.history)) w s)
  begins_by_statement : s < MOST_SESSIONS → w.session s ≡ None → Happens w s (begun by_statement w s)
  inserts : (row : Row) (m : OpenSession) → MayWrite w s row.key m → view w.history m row.key ≡ None → Happens w s (change w s (with_write w.history row.key (Some row)))
  updates : (row : Row) (m : OpenSession) → MayWrite w s row.key m → IsSome (view w.history m row.key) → Happens w s (change w s (with_write w.history row.key (Some row)))
  deletes : (key : ℕ) (m : OpenSession) → MayWrite w s key m → IsSome (view w.history m key) → Happens w s (change w s (with_write w.history key None))
  conflicts : (key : ℕ) (m : OpenSession) → IsWriter w s m → IsLate w.history (start_now w.history m) key → Happens w s (change w s as_failed)
  waits : (key o : ℕ) (m : OpenSession) → IsBlocked w s key o m → ¬ ClosesRing w.waits_for s o → Happens w s (blocked_by w s o)
  deadlocks : (key o : ℕ) (m : OpenSession) → IsBlocked w s key o m → ClosesRing w.waits_for s o → Happens w s (change w s as_failed)
  saves : (m : OpenSession) → IsWriter w s m → length m.levels ≤ 32 → Happens w s (change w s with_savepoint)
  rolls_back_to : (m : OpenSession) → w.session s ≡ Some m → m.cursor ≡ None → 1 < length m.levels → Happens w s (rolled_back_to w s)
  releases : (m : OpenSession) → IsWriter w s m → 1 < length m.levels → Happens w s (change w s without_savepoint)
  commits : (m : OpenSession) → IsReady w s m → Happens w s (committed_by w s)
  aborts : (m : OpenSession) → w.session s ≡ Some m → Happens w s (aborted w s)
  opens_index : (index : ℕ) (low high : ℤ) (m : OpenSession) → IsWriter w s m → MayScan w s index → low ≤ℤ high → Happens w s (change w s (opened w.history (by_index index) (rows_within index low high)))
  opens_heap : (m : OpenSession) → IsWriter w s m → Happens w s (change w s (opened w.history by_heap (λ rows. rows)))
  opens_keys : (low high : ℤ) (m : OpenSession) → IsWriter w s m → low ≤ℤ high → Happens w s (change w s (opened w.history by_keys (rows_within 0 low high)))
  takes : (n : ℕ) (rows : List Row) (m : OpenSession) (c : Cursor) → IsReady w s m → m.cursor ≡ Some c → HandsOutPart c.order n c.rest rows → Happens w s (change w s (with_taken (keys_of rows)))
  takes_keys : (n : ℕ) (keys : List ℕ) (m : OpenSession) (c : Cursor) → IsReady w s m → m.cursor ≡ Some c → HandsOutKeys c.order n c.rest keys → Happens w s (change w s (with_taken keys))
  closes : (m : OpenSession) → IsReady w s m → IsSome m.cursor → Happens w s (change w s without_cursor)

-- steps of any sessions, one after another, lead from the one world to the other. Between them come things that are no session's step. An
-- index may be made that is not there, while no open session has written. A vacuum may begin while none runs, and end
pub data StepsReach (from : World) : World → Type 0 where
  stays : StepsReach from from
  goes_on : (before after : World) (s : ℕ) → StepsReach from before → Happens before s after → StepsReach from after
  makes_index : (before : World) (index : ℕ) → StepsReach from before → before.has_index index ≡ false → ¬ SomeoneHasWritten before → StepsReach from (with_made_index before index)
  begins_vacuum : (before : World) → StepsReach from before → before.has_vacuum ≡ false → StepsReach from (with_vacuum true before)
  ends_vacuum : (before : World) → StepsReach from before → before.has_vacuum ≡ true → StepsReach from (with_vacuum false before)
