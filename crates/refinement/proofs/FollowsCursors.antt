-- A session opens a cursor, is handed rows by it, and closes it: the reply is one that the history allows, and the engine
-- agrees with the next world.
use Rattle.std.proofs.Common.{◌≡◌, ℕ, ◌<◌, ◌≤◌, max, List, length, Option, Some, None, true, false, refl, sym, ap, ◌∙◌, subst}
use Rattle.std.specs.Prelude.{IsSome, ℤ, ◌<ℤ◌, ◌≤ℤ◌, Vec}
use Rattle.std.specs.declared.alloc.Global.{Global}
use Rattle.std.specs.Option.{option_map}
use Rattle.std.proofs.lemmas.Option.{same_Some, none-some}
use Rattle.xid_circle.specs.declared.Tid.{Tid}
use Rattle.tuple_header.specs.declared.version.Row.{Row}
use Rattle.tuple_header.specs.Version.{Version}
use Rattle.commit_status.specs.declared.status.Status.{Status}
use Rattle.snapshot.specs.Snap.{Snap}
use Rattle.history.specs.History.{Transaction}
use Rattle.history.specs.World.{World, Isolation, by_snapshot, by_statement, OpenSession, Cursor, by_index, by_heap, joined, view, MayScan, IsReady, world_sessions, start_now}
use Rattle.history.specs.Cursors.{rows_within, keys_of}
use Rattle.history.specs.Moves.{change, with_taken}
use Rattle.calls.specs.declared.step.Step.{Step}
use Rattle.calls.specs.declared.step.Step.TheVariants as step
use Rattle.calls.specs.declared.reply.Reply.{Reply}
use Rattle.calls.specs.declared.reply.Reply.TheVariants as reply
use Rattle.calls.specs.declared.reply.Refusal.{Refusal}
use Rattle.calls.specs.declared.reply.Refusal.TheVariants as refusal
use Rattle.calls.specs.Bars.{BarsFree, BarsWithCursor}
use Rattle.calls.proofs.BarsLemmas.{of_free, of_with_cursor}
use Rattle.refinement.specs.Allowed.{Allows, next}
use Rattle.refinement.specs.Heap.{RowPosition, Position, in_index, in_heap, SeenIsolation, seen_by_snapshot, seen_by_statement, SeenSession, Heap, kept_snapshot, StatementSees, CursorSees, seen_sessions}
use Rattle.refinement.specs.Visible.{ReaderSees, IsFreshSnapshot, At}
use Rattle.refinement.specs.Cursors.{heap_start, Comes, Remains, CursorAgrees, WalksOver, Gathers}
use Rattle.refinement.specs.Agrees.{Shows, ReaderAgrees, IsSameIsolation, CursorReads, SessionAgrees, HeapAgrees}
use Rattle.refinement.specs.Finds.{HeapFollows}
use Rattle.refinement.proofs.Statuses.{Finishes-none, none_given, some_of}
use Rattle.refinement.proofs.CursorsLemmas.{CursorAgrees-none, CursorAgrees-some, some_model}
use Rattle.refinement.proofs.CursorWalks.{from_first}
use Rattle.refinement.proofs.Rests.{within_is, within_kept, none_left}
use Rattle.refinement.proofs.Handing.{past, next_met, rest_met, SeenOnce, part_gathered, rest_gathered}
use Rattle.refinement.proofs.ByStatement.{ReaderAgrees-opens}
use Rattle.refinement.proofs.Readers.{Levels-top}
use Rattle.refinement.proofs.Steps.{OnlyIs, same_sights}
use Rattle.refinement.proofs.Savepoints.{Agrees-change}
use Rattle.refinement.proofs.Follows.{allows_barred, allows_bare, Agrees-stepped}
use Rattle.refinement.proofs.Hindrances.{writer}

-- the versions that a session's cursor sees
abbrev pub seen_by : Heap → SeenSession → Version → Type 0
seen_by h e = ReaderSees h.status (CursorSees h e.isolation) e.own

-- the session has not failed
pub ready : (h : Heap) (w : World) (s : ℕ) (e : SeenSession) (at : h.session s ≡ Some e) (agrees : HeapAgrees h w) → e.failed ≡ false → IsReady w s (agrees.opened s e at).0
ready h w s e at agrees sound = let open_ = agrees.opened s e at in record { there = open_.1; sound = sym open_.2.same_failed ∙ sound }

-- the cursor alone changes, on both sides, and the snapshot that is kept for it
SessionAgrees-cursor : {status : ℕ → Option Status} {store : Tid → Option Version} {history : List Transaction} {sees cursor_sees cursor_sees' : ℕ → Type 0} {start : ℕ} {e : SeenSession} {m : OpenSession}
    (isolation : SeenIsolation) (position : Option Position) (c : Option Cursor) → IsSameIsolation isolation m.isolation → (IsSome position → IsSome (kept_snapshot isolation))
    → CursorAgrees store (ReaderSees status cursor_sees' e.own) position c → (IsSome position → CursorReads status store history cursor_sees' e.own (joined m.levels))
    → SessionAgrees status store history sees start cursor_sees e m
    → SessionAgrees status store history sees start cursor_sees' (record e { isolation = isolation; cursor = position }) (record m { cursor = c })
SessionAgrees-cursor {status} {store} {history} {sees} {cursor_sees} {cursor_sees'} {start} {e} {m} isolation position c same kept now reads mine = record {
  same_failed = mine.same_failed;
  isolation = same;
  kept = kept;
  cursor = now;
  cursor_reads = reads;
  levels = mine.levels;
  level_traces = mine.level_traces;
  traces = mine.traces;
  began = mine.began;
  in_time = mine.in_time;
  active_unseen = mine.active_unseen;
  own_active = mine.own_active;
}

-- an open session, and what it is in the model
abbrev AgreesAs : Heap → World → SeenSession → OpenSession → Type 0
AgreesAs h w e m = SessionAgrees h.status h.version w.history (StatementSees h e.isolation) (start_now w.history m) (CursorSees h e.isolation) e m

pub Agrees-cursor : (h : Heap) (w : World) (s : ℕ) (e : SeenSession) (isolation : SeenIsolation) (position : Option Position) (f : OpenSession → Option Cursor) (session' : ℕ → Option SeenSession)
    → OnlyIs h.session session' s (Some (record e { isolation = isolation; cursor = position })) → h.session s ≡ Some e
    → ((m : OpenSession) → AgreesAs h w e m → AgreesAs h w (record e { isolation = isolation; cursor = position }) (record m { cursor = f m }))
    → HeapAgrees h w → HeapAgrees (record h { session = session' }) (change w s (λ m. record m { cursor = f m }))
Agrees-cursor h w s e isolation position f session' only at now agrees =
    Agrees-change h w s e (record e { isolation = isolation; cursor = position }) (λ m. record m { cursor = f m }) h.status h.sees session' only at (Finishes-none h.status e.own) (same_sights h) (λ m mine x ours. ours)
    (λ m k wrote. wrote) now agrees

-- Opening.

-- each row of the view comes from a version that is seen
shown : {store : Tid → Option Version} {seen : Version → Type 0} {rows : ℕ → Option Row} (k : ℕ) (row : Row) → Shows store seen rows → rows k ≡ Some row
    → (p : Tid) × (v : Version) × At store p v × seen v × (v.row ≡ row) × (row.key ≡ k)
shown {store} {seen} {rows} k row shows is =
    let some = shows.there k row is in
    let same : some.1.row ≡ row = same_Some some.1.row row (sym (shows.sound some.0 some.1 some.2 some.4) ∙ (ap rows some.3 ∙ is)) in
    (some.0, some.1, some.2, some.4, same, ap (λ (r : Row). r.key) (sym same) ∙ some.3)

-- and each version that is seen shows one
shows_row : {store : Tid → Option Version} {seen : Version → Type 0} {rows : ℕ → Option Row} {position : Position} (row : Row) → Shows store seen rows → Comes store seen position row → rows row.key ≡ Some row
shows_row {store} {seen} {rows} row shows c = subst (λ (r : Row). rows r.key ≡ Some r) c.same_row (shows.sound c.place c.version c.here c.shown)

pub remains_index : {store : Tid → Option Version} {seen : Version → Type 0} {rows : ℕ → Option Row} (index : ℕ) (low high : ℤ) → Shows store seen rows
    → Remains store seen (in_index index low high None) (record { order = by_index index; rest = rows_within index low high rows })
remains_index {store} {seen} {rows} index low high shows = record {
  order = refl;
  sound = λ row c. within_kept index low high rows row.key row (shows_row row shows c) c.to_come.from c.to_come.to;
  there = λ k row is. let within = within_is index low high rows k row is in let some = shown k row shows within.0 in
      (record { place = some.0; version = some.1; here = some.2; shown = some.3; same_row = some.4; to_come = record { from = within.1; to = within.2; after = tt } }, some.5);
}

remains_heap : {store : Tid → Option Version} {seen : Version → Type 0} {rows : ℕ → Option Row} → Shows store seen rows → Remains store seen (in_heap heap_start) (record { order = by_heap; rest = rows })
remains_heap {store} {seen} {rows} shows = record {
  order = refl;
  sound = λ row c. shows_row row shows c;
  there = λ k row is. let some = shown k row shows is in (record { place = some.0; version = some.1; here = some.2; shown = some.3; same_row = some.4; to_come = from_first some.0 }, some.5);
}

-- By which snapshot a session reads when it has opened a cursor: by its own, as before; or by statement, and it keeps one that was
-- taken now.
abbrev pub OpensBy : Heap → SeenIsolation → SeenIsolation → Type 0
OpensBy h (seen_by_snapshot snap) isolation = isolation ≡ seen_by_snapshot snap
OpensBy h (seen_by_statement kept) isolation = (snap : Snap) × (isolation ≡ seen_by_statement (Some snap)) × IsFreshSnapshot h.status (h.sees snap)

-- the session with this cursor
abbrev pub with_cursor : SeenIsolation → Position → SeenSession → SeenSession
with_cursor isolation position e = record e { isolation = isolation; cursor = Some position }

abbrev with_model_cursor : Cursor → OpenSession → OpenSession
with_model_cursor c m = record m { cursor = Some c }

-- the cursor reads what the session's statement does
pub opens : (h : Heap) (w : World) (e : SeenSession) (m : OpenSession) (position : Position) (c : Cursor) (before after : SeenIsolation) (model : Isolation) → OpensBy h before after → IsSameIsolation before model → m.isolation ≡ model
    → ((seen : Version → Type 0) → Shows h.version seen (view w.history m) → Remains h.version seen position c)
    → SessionAgrees h.status h.version w.history (StatementSees h before) (start_now w.history m) (CursorSees h before) e m
    → SessionAgrees h.status h.version w.history (StatementSees h after) (start_now w.history m) (CursorSees h after) (with_cursor after position e) (with_model_cursor c m)
opens h w e m position c (seen_by_snapshot snap) after (by_snapshot start) by same is remains mine =
    subst (λ after. SessionAgrees h.status h.version w.history (StatementSees h after) (start_now w.history m) (CursorSees h after) (with_cursor after position e) (with_model_cursor c m)) (sym by)
    (SessionAgrees-cursor (seen_by_snapshot snap) (Some position) (Some c) (subst (λ model. IsSameIsolation (seen_by_snapshot snap) model) (sym is) tt) (λ some. refl) (CursorAgrees-some (remains (ReaderSees h.status (h.sees snap) e.own) top.rows))
    (λ some. record { start = start_now w.history m; began = mine.began; reads = top; active_unseen = mine.active_unseen }) mine)
  where
    top : ReaderAgrees h.status h.version w.history (h.sees snap) (start_now w.history m) e.own (joined m.levels)
    top = Levels-top e.own e.saved m.levels mine.levels
opens h w e m position c (seen_by_snapshot snap) after by_statement by same is remains mine = absurd same
opens h w e m position c (seen_by_statement kept) after (by_snapshot start) by same is remains mine = absurd same
opens h w e m position c (seen_by_statement kept) after by_statement by same is remains mine =
    subst (λ after. SessionAgrees h.status h.version w.history (StatementSees h after) (start_now w.history m) (CursorSees h after) (with_cursor after position e) (with_model_cursor c m)) (sym by.1)
    (SessionAgrees-cursor (seen_by_statement (Some by.0)) (Some position) (Some c) (subst (λ model. IsSameIsolation (seen_by_statement (Some by.0)) model) (sym is) tt) (λ some. refl) (CursorAgrees-some (remains (ReaderSees h.status (h.sees by.0) e.own) top.rows))
    (λ some. record { start = start_now w.history m; began = mine.began; reads = top; active_unseen = by.2.active }) mine)
  where
    top : ReaderAgrees h.status h.version w.history (h.sees by.0) (start_now w.history m) e.own (joined m.levels)
    top = ReaderAgrees-opens by.2 (Levels-top e.own e.saved m.levels mine.levels)

-- as `HeapFollows` has it, of the worlds of P
abbrev pub FollowsWhere : (World → Type 0) → Heap → Step → Reply → Heap → Type 0
FollowsWhere P old step reply new = (w : World) → P w → HeapAgrees old w → Allows w step reply × HeapAgrees new (next w step reply)

pub Follows-open_index : (h : Heap) (s : ℕ) (e : SeenSession) (index : ℕ) (low high : ℤ) (isolation : SeenIsolation) (session' : ℕ → Option SeenSession)
    → OnlyIs h.session session' s (Some (with_cursor isolation (in_index index low high None) e)) → ((w : World) → HeapAgrees h w → OpensBy h e.isolation isolation)
    → h.session s ≡ Some e → e.failed ≡ false → e.cursor ≡ None → low ≤ℤ high → FollowsWhere (λ w. MayScan w s index) h (step.OpenIndex s index low high) reply.Done (record h { session = session' })
Follows-open_index h s e index low high isolation session' only by at sound bare order w there agrees = (
  ((agrees.opened s e at).0, writer h w s e at agrees sound bare, there, order),
  Agrees-cursor h w s e isolation (Some (in_index index low high None)) (λ m. Some (record { order = by_index index; rest = rows_within index low high (view w.history m) })) session' only at
      (λ m mine. opens h w e m (in_index index low high None) (record { order = by_index index; rest = rows_within index low high (view w.history m) }) e.isolation isolation m.isolation (by w agrees) mine.isolation refl
      (λ seen shows. remains_index index low high shows) mine) agrees,
)

pub Follows-open_heap : (h : Heap) (s : ℕ) (e : SeenSession) (isolation : SeenIsolation) (session' : ℕ → Option SeenSession) → OnlyIs h.session session' s (Some (with_cursor isolation (in_heap heap_start) e))
    → ((w : World) → HeapAgrees h w → OpensBy h e.isolation isolation) → h.session s ≡ Some e → e.failed ≡ false → e.cursor ≡ None → HeapFollows h (step.OpenHeap s) reply.Done (record h { session = session' })
Follows-open_heap h s e isolation session' only by at sound bare w agrees = (
  ((agrees.opened s e at).0, writer h w s e at agrees sound bare),
  Agrees-cursor h w s e isolation (Some (in_heap heap_start)) (λ m. Some (record { order = by_heap; rest = view w.history m })) session' only at
      (λ m mine. opens h w e m (in_heap heap_start) (record { order = by_heap; rest = view w.history m }) e.isolation isolation m.isolation (by w agrees) mine.isolation refl (λ seen shows. remains_heap shows) mine) agrees,
)

-- there is no memory for a list of the ids in progress, which a session by statement keeps with its cursor

abbrev pub IsSeenByStatement : SeenIsolation → Type 0
IsSeenByStatement (seen_by_snapshot snap) = ⊥
IsSeenByStatement (seen_by_statement kept) = Unit {0}

by_statement_too : (seen : SeenIsolation) (isolation : Isolation) → IsSeenByStatement seen → IsSameIsolation seen isolation → isolation ≡ by_statement
by_statement_too (seen_by_snapshot snap) isolation by same = absurd by
by_statement_too (seen_by_statement kept) (by_snapshot start) by same = absurd same
by_statement_too (seen_by_statement kept) by_statement by same = refl

pub reads_by_statement : (h : Heap) (w : World) (s : ℕ) (e : SeenSession) (at : h.session s ≡ Some e) (agrees : HeapAgrees h w) → IsSeenByStatement e.isolation → (agrees.opened s e at).0.isolation ≡ by_statement
reads_by_statement h w s e at agrees by = let open_ = agrees.opened s e at in by_statement_too e.isolation open_.0.isolation by open_.2.isolation

pub Follows-open_index_no_memory : (h : Heap) (s : ℕ) (e : SeenSession) (index : ℕ) (low high : ℤ) → h.session s ≡ Some e → e.failed ≡ false → e.cursor ≡ None → low ≤ℤ high → IsSeenByStatement e.isolation
    → FollowsWhere (λ w. MayScan w s index) h (step.OpenIndex s index low high) (reply.Refused refusal.NoMemory) h
Follows-open_index_no_memory h s e index low high at sound bare order by w there agrees =
    (((agrees.opened s e at).0, writer h w s e at agrees sound bare, there, order, reads_by_statement h w s e at agrees by), Agrees-stepped h w s agrees)

pub Follows-open_heap_no_memory : (h : Heap) (s : ℕ) (e : SeenSession) → h.session s ≡ Some e → e.failed ≡ false → e.cursor ≡ None → IsSeenByStatement e.isolation → HeapFollows h (step.OpenHeap s) (reply.Refused refusal.NoMemory) h
Follows-open_heap_no_memory h s e at sound bare by w agrees = (((agrees.opened s e at).0, writer h w s e at agrees sound bare, reads_by_statement h w s e at agrees by), Agrees-stepped h w s agrees)

pub Follows-no_such_index : (h : Heap) (s : ℕ) (e : SeenSession) (index : ℕ) (low high : ℤ) → h.session s ≡ Some e → e.failed ≡ false → e.cursor ≡ None
    → FollowsWhere (λ w. w.has_index index ≡ false) h (step.OpenIndex s index low high) (reply.Refused refusal.NoSuchIndex) h
Follows-no_such_index h s e index low high at sound bare w none agrees = (((agrees.opened s e at).0, writer h w s e at agrees sound bare, none), Agrees-stepped h w s agrees)

pub Follows-bad_bounds : (h : Heap) (s : ℕ) (e : SeenSession) (index : ℕ) (low high : ℤ) → h.session s ≡ Some e → e.failed ≡ false → e.cursor ≡ None → high <ℤ low
    → FollowsWhere (λ w. MayScan w s index) h (step.OpenIndex s index low high) (reply.Refused refusal.BadBounds) h
Follows-bad_bounds h s e index low high at sound bare order w there agrees = (((agrees.opened s e at).0, writer h w s e at agrees sound bare, there, order), Agrees-stepped h w s agrees)

pub Follows-index_too_new : (h : Heap) (s : ℕ) (e : SeenSession) (index : ℕ) (low high : ℤ) → h.session s ≡ Some e → e.failed ≡ false → e.cursor ≡ None
    → FollowsWhere (λ w. (w.has_index index ≡ true) × (w.too_new s index ≡ true)) h (step.OpenIndex s index low high) (reply.Refused refusal.IndexTooNew) h
Follows-index_too_new h s e index low high at sound bare w young agrees = (((agrees.opened s e at).0, writer h w s e at agrees sound bare, young.0, young.1), Agrees-stepped h w s agrees)

pub Follows-barred_open_index : (h : Heap) (s index : ℕ) (low high : ℤ) (r : Refusal) → BarsFree (seen_sessions h) s r → HeapFollows h (step.OpenIndex s index low high) (reply.Refused r) h
Follows-barred_open_index h s index low high r is w agrees =
    (of_free (world_sessions w) s (λ r. Allows w (step.OpenIndex s index low high) (reply.Refused r)) (λ is. is) (λ is. is) (λ is. is) (λ is. is) r (allows_barred h w s r agrees is), Agrees-stepped h w s agrees)

pub Follows-barred_open_heap : (h : Heap) (s : ℕ) (r : Refusal) → BarsFree (seen_sessions h) s r → HeapFollows h (step.OpenHeap s) (reply.Refused r) h
Follows-barred_open_heap h s r is w agrees =
    (of_free (world_sessions w) s (λ r. Allows w (step.OpenHeap s) (reply.Refused r)) (λ is. is) (λ is. is) (λ is. is) (λ is. is) r (allows_barred h w s r agrees is), Agrees-stepped h w s agrees)

-- Next.

-- the model's cursor, of a session whose cursor is at this position
pub model_at : (h : Heap) (w : World) (s : ℕ) (e : SeenSession) (position : Position) (at : h.session s ≡ Some e) (agrees : HeapAgrees h w) → e.cursor ≡ Some position
    → (c : Cursor) × ((agrees.opened s e at).0.cursor ≡ Some c) × Remains h.version (seen_by h e) position c
model_at h w s e position at agrees is = (agrees.opened s e at).2.cursor.opened position is

-- of each key it sees one version
seen_once : (h : Heap) (w : World) (s : ℕ) (e : SeenSession) (position : Position) → h.session s ≡ Some e → HeapAgrees h w → e.cursor ≡ Some position → SeenOnce h.version (seen_by h e)
seen_once h w s e position at agrees is = ((agrees.opened s e at).2.cursor_reads (some_of position e.cursor is)).reads.rows.one

-- these rows are handed out, and those that come at the new position are left
pub Agrees-taken : (h : Heap) (w : World) (s : ℕ) (e : SeenSession) (position position' : Position) (rows : List Row) (session' : ℕ → Option SeenSession)
    → OnlyIs h.session session' s (Some (record e { cursor = Some position' })) → h.session s ≡ Some e → e.cursor ≡ Some position
    → ((c : Cursor) → Remains h.version (seen_by h e) position c → Remains h.version (seen_by h e) position' (past (keys_of rows) c))
    → HeapAgrees h w → HeapAgrees (record h { session = session' }) (change w s (with_taken (keys_of rows)))
Agrees-taken h w s e position position' rows session' only at is left agrees =
    Agrees-cursor h w s e e.isolation (Some position') (λ m. option_map (past (keys_of rows)) m.cursor) session' only at
    (λ m mine. let model = mine.cursor.opened position is in
    SessionAgrees-cursor e.isolation (Some position') (option_map (past (keys_of rows)) m.cursor) mine.isolation (λ some. mine.kept (some_of position e.cursor is))
    (subst (λ o. CursorAgrees h.version (seen_by h e) (Some position') (option_map (past (keys_of rows)) o)) (sym model.1) (CursorAgrees-some (left model.0 model.2)))
    (λ some. mine.cursor_reads (some_of position e.cursor is)) mine) agrees

-- the rows that a walk in the index meets, the first that come: as many as were asked for, or all
pub Follows-next_in_index : (h : Heap) (s : ℕ) (e : SeenSession) (index : ℕ) (low high : ℤ) (from to : Option RowPosition) (n : ℕ) (rows : Vec Row Global) (session' : ℕ → Option SeenSession)
    → OnlyIs h.session session' s (Some (record e { cursor = Some (in_index index low high to) })) → h.session s ≡ Some e → e.failed ≡ false → e.cursor ≡ Some (in_index index low high from)
    → WalksOver h.version (seen_by h e) index low high from to rows.items → 0 < length rows.items → length rows.items ≤ max 1 n
    → (length rows.items < max 1 n → (row : Row) → ¬ Comes h.version (seen_by h e) (in_index index low high to) row)
    → HeapFollows h (step.Next s n) (reply.Rows rows) (record h { session = session' })
Follows-next_in_index h s e index low high from to n rows session' only at sound is meets some at_most none w agrees =
    let model = model_at h w s e (in_index index low high from) at agrees is in (
      ((agrees.opened s e at).0, model.0, ready h w s e at agrees sound, model.1, next_met model.2 meets n some at_most none),
      Agrees-taken h w s e (in_index index low high from) (in_index index low high to) rows.items session' only at is (λ c remains. rest_met remains meets) agrees,
    )

-- the rows that a walk over the heap meets
pub Follows-next_in_heap : (h : Heap) (s : ℕ) (e : SeenSession) (from to : Tid) (n : ℕ) (rows : Vec Row Global) (session' : ℕ → Option SeenSession)
    → OnlyIs h.session session' s (Some (record e { cursor = Some (in_heap to) })) → h.session s ≡ Some e → e.failed ≡ false → e.cursor ≡ Some (in_heap from)
    → Gathers h.version (seen_by h e) from to rows.items → 0 < length rows.items → HeapFollows h (step.Next s n) (reply.Rows rows) (record h { session = session' })
Follows-next_in_heap h s e from to n rows session' only at sound is gathers some w agrees =
    let model = model_at h w s e (in_heap from) at agrees is in let one = seen_once h w s e (in_heap from) at agrees is in (
      ((agrees.opened s e at).0, model.0, ready h w s e at agrees sound, model.1, part_gathered model.2 gathers one n some),
      Agrees-taken h w s e (in_heap from) (in_heap to) rows.items session' only at is (λ c remains. rest_gathered remains gathers one) agrees,
    )

-- nothing is still to come
pub Follows-end : (h : Heap) (s : ℕ) (e : SeenSession) (position : Position) (n : ℕ) → h.session s ≡ Some e → e.failed ≡ false → e.cursor ≡ Some position
    → ((row : Row) → ¬ Comes h.version (seen_by h e) position row) → HeapFollows h (step.Next s n) reply.End h
Follows-end h s e position n at sound is none w agrees = let model = model_at h w s e position at agrees is in (
  ((agrees.opened s e at).0, model.0, ready h w s e at agrees sound, model.1, none_left model.0.rest (λ k row left. none row (model.2.there k row left).0)),
  Agrees-stepped h w s agrees,
)

-- a row is still to come
pub Follows-next_no_memory : (h : Heap) (s : ℕ) (e : SeenSession) (position : Position) (n : ℕ) (row : Row) → h.session s ≡ Some e → e.failed ≡ false → e.cursor ≡ Some position
    → Comes h.version (seen_by h e) position row → HeapFollows h (step.Next s n) (reply.Refused refusal.NoMemory) h
Follows-next_no_memory h s e position n row at sound is comes w agrees = let model = model_at h w s e position at agrees is in (
  ((agrees.opened s e at).0, model.0, ready h w s e at agrees sound, model.1, λ over. absurd (let none = sym (over row.key) ∙ model.2.sound row comes in none-some row none)),
  Agrees-stepped h w s agrees,
)

pub Follows-bare_next : (h : Heap) (s n : ℕ) (r : Refusal) → BarsWithCursor (seen_sessions h) s r → HeapFollows h (step.Next s n) (reply.Refused r) h
Follows-bare_next h s n r is w agrees =
    (of_with_cursor (world_sessions w) s (λ r. Allows w (step.Next s n) (reply.Refused r)) (λ is. is) (λ is. is) (λ is. is) (λ is. is) r (allows_bare h w s r agrees is), Agrees-stepped h w s agrees)

-- Close.

-- by statement, it keeps no snapshot any more
abbrev pub without_kept : SeenIsolation → SeenIsolation
without_kept (seen_by_snapshot snap) = seen_by_snapshot snap
without_kept (seen_by_statement kept) = seen_by_statement None

closes : (h : Heap) (w : World) (e : SeenSession) (m : OpenSession) (before : SeenIsolation) (model : Isolation) → IsSameIsolation before model → m.isolation ≡ model
    → SessionAgrees h.status h.version w.history (StatementSees h before) (start_now w.history m) (CursorSees h before) e m
    → SessionAgrees h.status h.version w.history (StatementSees h (without_kept before)) (start_now w.history m) (CursorSees h (without_kept before)) (record e { isolation = without_kept before; cursor = None }) (record m { cursor = None })
closes h w e m (seen_by_snapshot snap) (by_snapshot start) same is mine =
    SessionAgrees-cursor (seen_by_snapshot snap) None None (subst (λ model. IsSameIsolation (seen_by_snapshot snap) model) (sym is) tt) (λ some. refl) (CursorAgrees-none refl refl) (λ some. absurd (none_given {A = Position} None refl some)) mine
closes h w e m (seen_by_snapshot snap) by_statement same is mine = absurd same
closes h w e m (seen_by_statement kept) (by_snapshot start) same is mine = absurd same
closes h w e m (seen_by_statement kept) by_statement same is mine =
    SessionAgrees-cursor (seen_by_statement None) None None (subst (λ model. IsSameIsolation (seen_by_statement None) model) (sym is) tt) (λ some. absurd (none_given {A = Position} None refl some)) (CursorAgrees-none refl refl)
    (λ some. absurd (none_given {A = Position} None refl some)) mine

pub Follows-close : (h : Heap) (s : ℕ) (e : SeenSession) (session' : ℕ → Option SeenSession) → OnlyIs h.session session' s (Some (record e { isolation = without_kept e.isolation; cursor = None }))
    → h.session s ≡ Some e → e.failed ≡ false → IsSome e.cursor → HeapFollows h (step.Close s) reply.Done (record h { session = session' })
Follows-close h s e session' only at sound some w agrees = let open_ = agrees.opened s e at in (
  (open_.0, ready h w s e at agrees sound, some_model some open_.2.cursor),
  Agrees-cursor h w s e (without_kept e.isolation) None (λ m. None) session' only at (λ m mine. closes h w e m e.isolation m.isolation mine.isolation refl mine) agrees,
)

pub Follows-bare_close : (h : Heap) (s : ℕ) (r : Refusal) → BarsWithCursor (seen_sessions h) s r → HeapFollows h (step.Close s) (reply.Refused r) h
Follows-bare_close h s r is w agrees = (allows_bare h w s r agrees is, Agrees-stepped h w s agrees)
