-- A session asks its cursor for rows, or for keys: whatever the answer, the engine follows the history.
use Rattle.std.proofs.Common.{◌≡◌, ℕ, ◌+◌, ◌<◌, ◌^◌, max, List, length, Option, Some, false, refl, sym, ap, ◌∙◌, subst, arith}
use Rattle.std.specs.Option.{option_map}
use Rattle.std.specs.Prelude.{Vec}
use Rattle.std.specs.declared.alloc.Global.{Global}
use denote.RawPtr.{null_ptr}
use Rattle.xid_circle.specs.declared.Tid.{Tid}
use Rattle.tuple_header.specs.declared.version.Row.{Row}
use Rattle.commit_status.specs.Window.{Window, IsWindow}
use Rattle.index_lookup.specs.declared.index_scan.IndexRange.{IndexRange}
use Rattle.snapshot.specs.Snap.{Snap}
use Rattle.table_indexes.specs.Indexes.{IndexesView, IsInUse, since_at}
use Rattle.history.specs.World.{World}
use Rattle.calls.specs.declared.step.Step.TheVariants as step
use Rattle.calls.specs.declared.reply.Reply.TheVariants as reply
use Rattle.calls.specs.declared.reply.Refusal.{Refusal}
use Rattle.calls.specs.declared.reply.Refusal.TheVariants as refusal
use Rattle.calls.specs.Bars.{BarsWithCursor}
use Rattle.refinement.specs.Allowed.{Allows, next}
use Rattle.refinement.specs.Heap.{Position, in_index, in_heap, in_keys}
use Rattle.refinement.specs.Finds as finds
use Rattle.refinement.proofs.Steps.{OnlyIs}
use Rattle.refinement.proofs.FollowsCursors as cursors
use Rattle.table_scans.specs.Scans.{Sight, start_of}
use Rattle.table_scans.specs.Keys.{NoKeyIsIn, MeetsSomeKey}
use Rattle.table_scans.specs.Takes.{IsAtEnd, MeetsSome, TakesRows, Takes, TakesUpTo, TakesSome}
use Rattle.refinement.proofs.Runs.{unmade}
use Rattle.sessions.specs.declared.session.Session.{Session}
use Rattle.sessions.specs.declared.session.SessionIsolation.{SessionIsolation}
use Rattle.sound_entries.specs.Since.{MayScanSince}
use Rattle.table_scans.specs.declared.progress.CursorScan.{CursorScan}
use Rattle.table_scans.specs.declared.progress.CursorScan.TheVariants.{Rows, Keys}
use Rattle.table_scans.specs.declared.progress.Scan.{Scan}
use Rattle.table_scans.specs.declared.progress.Scan.TheVariants.{Index, Heap}
use Rattle.session_steps.specs.State.{State, session_at, put_session, with_cursor, seen, seen_position, position_of, reader_of, engine_sessions}
use Rattle.history.specs.Moves.{with_taken}
use Rattle.history.specs.Cursors.{keys_of}
use Rattle.sessions.specs.Session.{kept_by}
use Rattle.session_steps.specs.Agrees.{Agrees, Follows, KeepsAllTargets, NotesHold}
use Rattle.session_steps.specs.Takes.{session_sight, HandsOutBy}
use Rattle.session_steps.specs.NextRows.{ExactNextRows}
use Rattle.session_steps.proofs.InUse.{GoesAlong, used-still, marks-put, agree}
use Rattle.session_steps.proofs.Owns.{reader-is}
use Rattle.session_steps.proofs.WrittenLemmas.{written-put}
use Rattle.session_steps.proofs.Follows.{Follows-same, bare_by, led-same}
use Rattle.session_steps.proofs.CursorSteps.{moved, only-cursor, sound-cursor}
use Rattle.session_steps.proofs.AtCursor.{IsAtCursor, NoneToCome, SomeToCome}
use Rattle.session_steps.proofs.WalkSteps.{left-in, scans-walk, none-left, none-in, some-in}
use Rattle.session_steps.proofs.KeyWalks.{no-keys, some-keys}
use Rattle.session_steps.proofs.HeapWalks.{WalksHeap, page-walk, part-walk, none-on, some-on}

pub Follows-bare_next : (st : State) (s n : ℕ) (r : Refusal) → BarsWithCursor (engine_sessions st) s r → Follows st (step.Next s n) (reply.Refused r) st
Follows-bare_next st s n r is = Follows-same st (step.Next s n) (reply.Refused r) tt (cursors.Follows-bare_next (seen st) s n r (bare_by st s r is))

-- The session is open and has not failed, and its cursor is here.

at-cursor : (st : State) (w : World) (s : ℕ) (e : Session) (cursor : CursorScan) → Agrees st w → session_at st s ≡ Some e → e.cursor ≡ Some cursor → IsAtCursor st e cursor
at-cursor st w s e cursor agrees at opened = record { world = w; agrees = agrees; number = s; there = at; opened = opened }

-- nothing is left of it, or something is
abbrev pub IsCursorAtEnd : Sight → CursorScan → Type 0
IsCursorAtEnd t (Rows scan) = IsAtEnd t scan
IsCursorAtEnd t (Keys range) = NoKeyIsIn t range

abbrev pub CursorMeetsSome : Sight → CursorScan → Type 0
CursorMeetsSome t (Rows scan) = MeetsSome t scan
CursorMeetsSome t (Keys range) = MeetsSomeKey t range

-- nothing is to come where a scan is at its end
none-to-come : (st : State) (e : Session) (cursor : CursorScan) → IsCursorAtEnd (session_sight st e) cursor → IsAtCursor st e cursor → NoneToCome st e cursor
none-to-come st e (Rows (Index span)) none at = none-in st e span none at
none-to-come st e (Rows (Heap from)) none at = none-on st e at.agrees.sound.window from none
none-to-come st e (Keys range) none at = no-keys st e range none at

-- something is where one meets a row, or a key
some-to-come : (st : State) (e : Session) (cursor : CursorScan) → NotesHold st → CursorMeetsSome (session_sight st e) cursor → IsAtCursor st e cursor → SomeToCome st e cursor
some-to-come st e (Rows (Index span)) hold (left, rows, scans, some) at = some-in st e span left rows scans some at
some-to-come st e (Rows (Heap from)) hold (to, rows, scans, some) at = some-on st e at.agrees.sound.window from to rows scans some
some-to-come st e (Keys range) hold (left, keys, scans, some) at = some-keys st e range left keys hold scans some at

pub Follows-end : (st : State) (s n : ℕ) (e : Session) (cursor : CursorScan) → session_at st s ≡ Some e → e.failed ≡ false → e.cursor ≡ Some cursor → IsCursorAtEnd (session_sight st e) cursor
    → Follows st (step.Next s n) reply.End st
Follows-end st s n e (Rows (Index span)) at sound opened none w agrees =
    Follows-same st (step.Next s n) reply.End tt
    (cursors.Follows-end (seen st) s (reader_of e) (in_index span.index span.low span.high (seen_position span.last)) n (reader-is st s e at) sound (ap position_of opened)
    (none-to-come st e (Rows (Index span)) none (at-cursor st w s e (Rows (Index span)) agrees at opened)))
    w agrees
Follows-end st s n e (Rows (Heap from)) at sound opened none w agrees =
    Follows-same st (step.Next s n) reply.End tt
    (cursors.Follows-end (seen st) s (reader_of e) (in_heap from) n (reader-is st s e at) sound (ap position_of opened) (none-to-come st e (Rows (Heap from)) none (at-cursor st w s e (Rows (Heap from)) agrees at opened)))
    w agrees
Follows-end st s n e (Keys range) at sound opened none w agrees =
    Follows-same st (step.Next s n) reply.End tt
    (cursors.Follows-end (seen st) s (reader_of e) (in_keys range.low range.high (seen_position range.last)) n (reader-is st s e at) sound (ap position_of opened) (none-to-come st e (Keys range) none (at-cursor st w s e (Keys range) agrees at opened)))
    w agrees

pub Follows-no_memory : (st : State) (s n : ℕ) (e : Session) (cursor : CursorScan) → session_at st s ≡ Some e → e.failed ≡ false → e.cursor ≡ Some cursor → CursorMeetsSome (session_sight st e) cursor
    → NotesHold st → Follows st (step.Next s n) (reply.Refused refusal.NoMemory) st
Follows-no_memory st s n e (Rows (Index span)) at sound opened some hold w agrees =
    let comes = some-to-come st e (Rows (Index span)) hold some (at-cursor st w s e (Rows (Index span)) agrees at opened) in
    Follows-same st (step.Next s n) (reply.Refused refusal.NoMemory) tt
    (cursors.Follows-next_no_memory (seen st) s (reader_of e) (in_index span.index span.low span.high (seen_position span.last)) n comes.0 (reader-is st s e at) sound (ap position_of opened) comes.1)
    w agrees
Follows-no_memory st s n e (Rows (Heap from)) at sound opened some hold w agrees =
    let comes = some-to-come st e (Rows (Heap from)) hold some (at-cursor st w s e (Rows (Heap from)) agrees at opened) in
    Follows-same st (step.Next s n) (reply.Refused refusal.NoMemory) tt (cursors.Follows-next_no_memory (seen st) s (reader_of e) (in_heap from) n comes.0 (reader-is st s e at) sound (ap position_of opened) comes.1) w agrees
Follows-no_memory st s n e (Keys range) at sound opened some hold w agrees =
    let comes = some-to-come st e (Keys range) hold some (at-cursor st w s e (Keys range) agrees at opened) in
    Follows-same st (step.Next s n) (reply.Refused refusal.NoMemory) tt
    (cursors.Follows-next_no_memory (seen st) s (reader_of e) (in_keys range.low range.high (seen_position range.last)) n comes.0 (reader-is st s e at) sound (ap position_of opened) comes.1)
    w agrees

-- Rows are handed out: the cursor alone moves.

module _ (st st' : State) (s n : ℕ) (e : Session) (after : CursorScan) (rows : Vec Row Global) (at : session_at st s ≡ Some e)
    (is : st' ≡ put_session st s (option_map (with_cursor (Some after)) (session_at st s))) where
  abbrev now : State
  now = put_session st s (Some (with_cursor (Some after) e))

  -- what readers see follows, where the new cursor goes along an index that the session may scan
  put-after : ((w : World) → Agrees st w → GoesAlong st.heap.statuses st.heap.indexes e.isolation (Some after))
      → ((w : World) → Agrees st w → finds.HeapFollows (seen st) (step.Next s n) (reply.Rows rows) (seen now)) → Follows st (step.Next s n) (reply.Rows rows) st'
  put-after along follows w agrees =
      let f = follows w agrees w agrees.found in
      subst (λ st'. Allows w (step.Next s n) (reply.Rows rows) × Agrees st' (next w (step.Next s n) (reply.Rows rows)) × KeepsAllTargets st st') (sym (moved st st' s e after at is)) (
        f.0,
        agree agrees (used-still st.heap.indexes) (marks-put st.sessions s e (with_cursor (Some after) e) at refl) (unmade refl refl)
            (written-put st w s e (with_cursor (Some after) e) (with_taken (keys_of rows.items)) at agrees (λ m there. agrees.written s e m at there)) f.1 (sound-cursor st st' s e after at is (along w agrees) agrees.sound),
        led-same st w agrees,
      )

  only-at : (position : Position) → position_of (Some after) ≡ Some position → OnlyIs (seen st).session (seen now).session s (Some (record (reader_of e) { cursor = Some position }))
  only-at position same = subst (λ p. OnlyIs (seen st).session (seen now).session s (Some (record (reader_of e) { cursor = p }))) same (only-cursor st st' s e after at is)

-- where the cursor is after a walk in an index
walked-to : (span left : IndexRange) → left ≡ record span { last = left.last } → position_of (Some (Rows (Index left))) ≡ Some (in_index span.index span.low span.high (seen_position left.last))
walked-to span left same = ap (λ (sp : IndexRange). Some (in_index sp.index sp.low sp.high (seen_position left.last))) same

-- it goes along the same index
along-left : (w : Window) (indexes : IndexesView) (isolation : SessionIsolation) (cursor : Option CursorScan) (span left : IndexRange) → left ≡ record span { last = left.last } → cursor ≡ Some (Rows (Index span))
    → GoesAlong w indexes isolation cursor → GoesAlong w indexes isolation (Some (Rows (Index left)))
along-left w indexes isolation cursor span left same opened along other is =
    let here : left ≡ other = cc in
    let number : span.index ≡ other.index = sym (ap (λ (sp : IndexRange). sp.index) same) ∙ ap (λ (sp : IndexRange). sp.index) here in
    subst (λ n. IsInUse indexes n × ((snap : Snap) → kept_by isolation ≡ Some snap → MayScanSince w (since_at indexes n) snap)) number (along span opened)

module _ (st st' : State) (s n : ℕ) (e : Session) (rows : Vec Row Global) (at : session_at st s ≡ Some e) (sound : e.failed ≡ false) (some : 0 < length rows.items) where
  Follows-rows_in_index : (span left : IndexRange) → e.cursor ≡ Some (Rows (Index span)) → TakesRows (session_sight st e) span left (max 1 n) rows.items
      → st' ≡ put_session st s (option_map (with_cursor (Some (Rows (Index left)))) (session_at st s)) → Follows st (step.Next s n) (reply.Rows rows) st'
  Follows-rows_in_index span left opened takes is w agrees =
      let here = at-cursor st w s e (Rows (Index span)) agrees at opened in
      let walks = scans-walk takes.scans in
      let same = walks.same in
      let f = cursors.Follows-next_in_index (seen st) s (reader_of e) span.index span.low span.high (seen_position span.last) (seen_position left.last) n rows (seen (now st st' s n e (Rows (Index left)) rows at is)).session
      (only-at st st' s n e (Rows (Index left)) rows at is (in_index span.index span.low span.high (seen_position left.last)) (walked-to span left same))
      (reader-is st s e at) sound (ap position_of opened) (walks.meets here) some takes.at_most
      (λ fewer row comes. none-left st e span left rows.items walks (takes.all fewer) here row (left-in st e span left row same comes)) in
      put-after st st' s n e (Rows (Index left)) rows at is
      (λ w' agrees'. along-left st.heap.statuses st.heap.indexes e.isolation e.cursor span left same opened (agrees'.sound.scans s e at).cursor) (λ w' agrees'. f) w agrees

  Follows-rows_in_heap : (from to : Tid) → e.cursor ≡ Some (Rows (Heap from)) → (IsWindow st.heap.statuses → WalksHeap st e from to rows.items)
      → st' ≡ put_session st s (option_map (with_cursor (Some (Rows (Heap to)))) (session_at st s)) → Follows st (step.Next s n) (reply.Rows rows) st'
  Follows-rows_in_heap from to opened walks is =
      put-after st st' s n e (Rows (Heap to)) rows at is (λ w agrees other is'. absurd (cc))
      (λ w agrees. cursors.Follows-next_in_heap (seen st) s (reader_of e) from to n rows (seen (now st st' s n e (Rows (Heap to)) rows at is)).session
      (only-at st st' s n e (Rows (Heap to)) rows at is (in_heap to) refl) (reader-is st s e at) sound (ap position_of opened) (walks agrees.sound.window) some)

  moved-as : (after after' : Scan) → after ≡ after' → st' ≡ put_session st s (option_map (with_cursor (Some (Rows after))) (session_at st s))
      → st' ≡ put_session st s (option_map (with_cursor (Some (Rows after'))) (session_at st s))
  moved-as after after' same is = is ∙ ap (λ (c : Scan). put_session st s (option_map (with_cursor (Some (Rows c))) (session_at st s))) same

  Follows-taken : (cursor after : Scan) → e.cursor ≡ Some (Rows cursor) → Takes (session_sight st e) cursor n rows.items after
      → st' ≡ put_session st s (option_map (with_cursor (Some (Rows after))) (session_at st s)) → Follows st (step.Next s n) (reply.Rows rows) st'
  Follows-taken (Index span) after opened (left, same, takes) is = Follows-rows_in_index span left opened takes (moved-as after (Index left) same is)
  Follows-taken (Heap from) after opened (page, same, takes) is = Follows-rows_in_heap from (start_of (page + 1)) opened (λ window. page-walk st e window from page rows.items takes) (moved-as after (Heap (start_of (page + 1))) same is)

  -- so many at most
  Follows-taken_up_to : (cursor after : Scan) → 0 < n → e.cursor ≡ Some (Rows cursor) → TakesUpTo (session_sight st e) cursor n rows.items after
      → st' ≡ put_session st s (option_map (with_cursor (Some (Rows after))) (session_at st s)) → Follows st (step.Next s n) (reply.Rows rows) st'
  Follows-taken_up_to (Index span) after above opened (left, same, takes) is =
      Follows-rows_in_index span left opened (subst (λ most. TakesRows (session_sight st e) span left most rows.items) (omega arith) takes) (moved-as after (Index left) same is)
  Follows-taken_up_to (Heap from) after above opened (to, same, takes) is = Follows-rows_in_heap from to opened (λ window. part-walk st e window from n rows.items to takes) (moved-as after (Heap to) same is)

pub Follows-rows : (st st' : State) (s n : ℕ) (e : Session) (cursor after : Scan) (rows : Vec Row Global) → session_at st s ≡ Some e → e.failed ≡ false → e.cursor ≡ Some (Rows cursor)
    → TakesSome (session_sight st e) cursor n rows.items after → st' ≡ put_session st s (option_map (with_cursor (Some (Rows after))) (session_at st s)) → Follows st (step.Next s n) (reply.Rows rows) st'
Follows-rows st st' s n e cursor after rows at sound opened taken is = Follows-taken st st' s n e rows at sound taken.some cursor after opened taken.takes is

pub Follows-rows_up_to : (st st' : State) (s n : ℕ) (e : Session) (cursor after : Scan) (rows : Vec Row Global) → session_at st s ≡ Some e → e.failed ≡ false → e.cursor ≡ Some (Rows cursor) → 0 < length rows.items → 0 < n
    → TakesUpTo (session_sight st e) cursor n rows.items after → st' ≡ put_session st s (option_map (with_cursor (Some (Rows after))) (session_at st s)) → Follows st (step.Next s n) (reply.Rows rows) st'
Follows-rows_up_to st st' s n e cursor after rows at sound opened some above takes is = Follows-taken_up_to st st' s n e rows at sound some cursor after above opened takes is

-- And so exactly.

pub hands-out : (takes : Sight → Scan → ℕ → List Row → Scan → Type 0) (st st' : State) (s n : ℕ) (e : Session) (cursor after : Scan) (rows : List Row) → session_at st s ≡ Some e → e.cursor ≡ Some (Rows cursor)
    → takes (session_sight st e) cursor n rows after → st' ≡ put_session st s (option_map (with_cursor (Some (Rows after))) (session_at st s)) → HandsOutBy Rows (λ sight before rows after. takes sight before n rows after) st st' s rows
hands-out takes st st' s n e cursor after rows at opened taken is = record {
  session = e;
  there = at;
  before = cursor;
  at = opened;
  after = after;
  takes = taken;
  is = moved st st' s e (Rows after) at is;
}

pub bare-next_rows : (st : State) (s n : ℕ) (r : Refusal) → BarsWithCursor (engine_sessions st) s r → ExactNextRows st s n (reply.Refused r) st
bare-next_rows st s n refusal.NoMemory is = is
bare-next_rows st s n r is = refl

-- A reply that has these rows.
abbrev pub with_rows : (rows : List Row) → length rows < 2 ^ 63 → Vec Row Global
with_rows rows fits = record { ptr = null_ptr; len = length rows; cap = length rows; alloc = record { memory = record { seal = tt } }; items = rows; ok = (refl, omega arith); small = fits }
