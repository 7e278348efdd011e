-- What the plain program answers, and what comes of it.
use Rattle.std.specs.Prelude.{[], ◌≡◌, ℕ, ◌≤◌, ◌<◌, List, ◌∷◌, ◌++◌, Option, Some, None, IsSome, true, false, ◌<ℤ◌, ◌≤ℤ◌, ℤ, length}
use Rattle.std.specs.Option.{option_map}
use Rattle.tuple_header.specs.declared.version.Row.{Row}
use Rattle.plain_history.specs.declared.plain.PlainSession.{PlainSession}
use Rattle.plain_history.specs.declared.refusal.Refused.{Refused}
use Rattle.plain_history.specs.declared.refusal.Refused.TheVariants.{By, Deadlock}
use Rattle.calls.specs.declared.reply.Refusal.{Refusal}
use Rattle.calls.specs.declared.reply.Refusal.TheVariants as refusal
use Rattle.calls.specs.Bars.{BarsOpen, BarsFree}
use Rattle.calls.specs.declared.step.TheConstants.{MOST_SESSIONS}
use Rattle.history.specs.History.{Transaction, IsLate}
use Rattle.history.specs.World.{World, world_sessions, OpenSession, start_now, view, SomeoneHasWritten, LacksIndex, ClosesRing, MayScan, IsReady, IsWriter, MayWrite, IsBlocked, joined}
use Rattle.history.specs.Moves.{stepped, change, as_failed, blocked_by, opened}
use Rattle.plain_cursor.specs.declared.order.PlainOrder.{PlainOrder}
use Rattle.plain_cursor.specs.declared.order.Bounds.{Bounds}
use Rattle.plain_cursor.specs.Order.{index_of, wanted}
use Rattle.plain_cursor.specs.Hands.{plain_order_of}
use Rattle.plain_history.specs.Plain.{open_of}

-- the session, or nobody, changes as f says
abbrev pub PlainBecomes : Option PlainSession → Option PlainSession → (OpenSession → OpenSession) → Type 0
PlainBecomes before after f = option_map open_of after ≡ option_map f (option_map open_of before)

abbrev pub PlainStays : Option PlainSession → Option PlainSession → Type 0
PlainStays before after = option_map open_of after ≡ option_map open_of before

abbrev pub with_transaction : World → Transaction → World
with_transaction w t = record w { history = w.history ++ t ∷ [] }

-- what a write that is refused leaves
abbrev pub after_refusal : World → ℕ → Refused → World
after_refusal w s (By refusal.Conflict) = change w s as_failed
after_refusal w s (By (refusal.Busy o)) = blocked_by w s o
after_refusal w s Deadlock = change w s as_failed
after_refusal w s why = stepped w s

-- Why a step is refused: each test where those before it let the step pass.

-- the write of a key by a session that may write meets another
abbrev pub MeetsWrite : World → ℕ → ℕ → OpenSession → Refused → Type 0
MeetsWrite w s key m (By refusal.Conflict) = IsLate w.history (start_now w.history m) key
MeetsWrite w s key m (By (refusal.Busy o)) = IsBlocked w s key o m × ¬ ClosesRing w.waits_for s o
MeetsWrite w s key m Deadlock = (o : ℕ) × IsBlocked w s key o m × ClosesRing w.waits_for s o
MeetsWrite w s key m why = ⊥

abbrev pub MayInsert : World → ℕ → ℕ → Type 0
MayInsert w s key = (m : OpenSession) × MayWrite w s key m × (view w.history m key ≡ None)

abbrev pub MayReplace : World → ℕ → ℕ → Type 0
MayReplace w s key = (m : OpenSession) × MayWrite w s key m × IsSome (view w.history m key)

abbrev pub RefusesInsert : World → ℕ → ℕ → Refused → Type 0
RefusesInsert w s key (By refusal.AlreadyThere) = (m : OpenSession) × IsWriter w s m × IsSome (view w.history m key)
RefusesInsert w s key (By refusal.Conflict) = (m : OpenSession) × IsWriter w s m × (view w.history m key ≡ None) × MeetsWrite w s key m (By refusal.Conflict)
RefusesInsert w s key (By (refusal.Busy o)) = (m : OpenSession) × IsWriter w s m × (view w.history m key ≡ None) × MeetsWrite w s key m (By (refusal.Busy o))
RefusesInsert w s key Deadlock = (m : OpenSession) × IsWriter w s m × (view w.history m key ≡ None) × MeetsWrite w s key m Deadlock
RefusesInsert w s key (By why) = BarsFree (world_sessions w) s why

abbrev pub RefusesReplace : World → ℕ → ℕ → Refused → Type 0
RefusesReplace w s key (By refusal.NotThere) = (m : OpenSession) × IsWriter w s m × (view w.history m key ≡ None)
RefusesReplace w s key (By refusal.Conflict) = (m : OpenSession) × IsWriter w s m × IsSome (view w.history m key) × MeetsWrite w s key m (By refusal.Conflict)
RefusesReplace w s key (By (refusal.Busy o)) = (m : OpenSession) × IsWriter w s m × IsSome (view w.history m key) × MeetsWrite w s key m (By (refusal.Busy o))
RefusesReplace w s key Deadlock = (m : OpenSession) × IsWriter w s m × IsSome (view w.history m key) × MeetsWrite w s key m Deadlock
RefusesReplace w s key (By why) = BarsFree (world_sessions w) s why

abbrev pub RefusesSave : World → ℕ → Refusal → Type 0
RefusesSave w s refusal.TooDeep = (m : OpenSession) × IsWriter w s m × (32 < length m.levels)
RefusesSave w s why = BarsFree (world_sessions w) s why

-- going back to a savepoint is open to a failed session too
abbrev pub RefusesRollBack : World → ℕ → Refusal → Type 0
RefusesRollBack w s refusal.CursorOpen = (m : OpenSession) × (w.session s ≡ Some m) × IsSome m.cursor
RefusesRollBack w s refusal.NoSavepoint = (m : OpenSession) × (w.session s ≡ Some m) × (m.cursor ≡ None) × (length m.levels ≤ 1)
RefusesRollBack w s why = BarsOpen (world_sessions w) s why

abbrev pub RefusesRelease : World → ℕ → Refusal → Type 0
RefusesRelease w s refusal.NoSavepoint = (m : OpenSession) × IsWriter w s m × (length m.levels ≤ 1)
RefusesRelease w s why = BarsFree (world_sessions w) s why

abbrev pub RefusesBounds : World → ℕ → ℤ → ℤ → Refusal → Type 0
RefusesBounds w s low high refusal.BadBounds = (m : OpenSession) × IsWriter w s m × (high <ℤ low)
RefusesBounds w s low high why = BarsFree (world_sessions w) s why

abbrev pub RefusesIndex : World → ℕ → ℕ → ℤ → ℤ → Refusal → Type 0
RefusesIndex w s index low high refusal.NoSuchIndex = (m : OpenSession) × IsWriter w s m × (w.has_index index ≡ false)
RefusesIndex w s index low high refusal.IndexTooNew = (m : OpenSession) × IsWriter w s m × (w.has_index index ≡ true) × (w.too_new s index ≡ true)
RefusesIndex w s index low high refusal.BadBounds = (m : OpenSession) × IsWriter w s m × MayScan w s index × (high <ℤ low)
RefusesIndex w s index low high why = BarsFree (world_sessions w) s why

-- why no index of the column is made: there is no such column, or an open session has written
abbrev pub RefusesMaking : World → (column : ℕ) → Refusal → Type 0
RefusesMaking w c refusal.NoSuchIndex = 4 ≤ c
RefusesMaking w c refusal.IndexBusy = LacksIndex w c × SomeoneHasWritten w
RefusesMaking w c why = ⊥

abbrev pub RefusesBegin : World → ℕ → Refusal → Type 0
RefusesBegin w s refusal.NoSuchSession = MOST_SESSIONS ≤ s
RefusesBegin w s refusal.AlreadyOpen = (s < MOST_SESSIONS) × IsSome (w.session s)
RefusesBegin w s why = ⊥

-- and where it is taken

abbrev pub MayBegin : World → ℕ → Type 0
MayBegin w s = (s < MOST_SESSIONS) × (w.session s ≡ None)

abbrev pub PlainReads : World → ℕ → ℕ → Option Row → Type 0
PlainReads w s key row = (m : OpenSession) × IsReady w s m × (row ≡ view w.history m key)

abbrev pub MaySave : World → ℕ → Type 0
MaySave w s = (m : OpenSession) × IsWriter w s m × (length m.levels ≤ 32)

abbrev pub MayRollBack : World → ℕ → Type 0
MayRollBack w s = (m : OpenSession) × (w.session s ≡ Some m) × (m.cursor ≡ None) × (1 < length m.levels)

abbrev pub MayRelease : World → ℕ → Type 0
MayRelease w s = (m : OpenSession) × IsWriter w s m × (1 < length m.levels)

abbrev pub MayCommit : World → ℕ → Type 0
MayCommit w s = (m : OpenSession) × IsReady w s m

abbrev pub WouldCommit : World → ℕ → Transaction → Type 0
WouldCommit w s t = (m : OpenSession) × IsReady w s m × (t ≡ joined m.levels)

-- Cursors.

abbrev pub MayOpen : World → ℕ → Type 0
MayOpen w s = (m : OpenSession) × IsWriter w s m

abbrev pub MayOpenWithin : World → ℕ → ℤ → ℤ → Type 0
MayOpenWithin w s low high = (m : OpenSession) × IsWriter w s m × (low ≤ℤ high)

abbrev pub MayOpenIndex : World → ℕ → ℕ → ℤ → ℤ → Type 0
MayOpenIndex w s index low high = (m : OpenSession) × IsWriter w s m × MayScan w s index × (low ≤ℤ high)

abbrev pub HasPlainCursor : World → ℕ → Type 0
HasPlainCursor w s = (m : OpenSession) × IsReady w s m × IsSome m.cursor

abbrev pub with_plain_cursor : List Transaction → PlainOrder → Bounds → OpenSession → OpenSession
with_plain_cursor history order bounds m = opened history (plain_order_of order) (wanted bounds (index_of order)) m
