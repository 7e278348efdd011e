-- Cursors of the engine follow the history: the session opens one, closes it, or is refused.
use Rattle.std.proofs.lemmas.Int.{to_z-of_z, ints}
use Rattle.std.specs.Int.Signed.{lt_z}
use Rattle.std.specs.Int.{w128}
use Rattle.std.proofs.lemmas.Bool.Decides.{nat_tests}
use Rattle.std.proofs.Common.{SFits, to_z, of_z, ◌≡◌, ℕ, arith, ℤ, ◌≤ℤ◌, ◌<ℤ◌, inl, inr, Bool, true, false, Option, Some, None, refl, sym, ap, ◌∙◌, subst}
use Rattle.std.specs.Prelude.{IsSome}
use Rattle.std.proofs.Math.ListN.{length-set}
use Rattle.std.proofs.lemmas.Option.{same_Some, none-some}
use Rattle.std.specs.Option.{option_map}
use Rattle.snapshot.specs.Snap.{Snap}
use Rattle.history.specs.World.{World, MayScan, by_index, by_heap}
use Rattle.root_index.specs.View.{IndexView}
use Rattle.table_indexes.specs.Indexes.{IndexesView, IsInUse, index_at, since_at}
use Rattle.calls.specs.declared.step.Step.TheVariants as step
use Rattle.calls.specs.declared.reply.Reply.TheVariants as reply
use Rattle.calls.specs.declared.reply.Refusal.{Refusal}
use Rattle.calls.specs.declared.reply.Refusal.TheVariants as refusal
use Rattle.calls.specs.Bars.{BarsFree, BarsWithCursor}
use Rattle.refinement.specs.Heap as relation
use Rattle.refinement.specs.Cursors.{heap_start}
use Rattle.refinement.specs.Allowed.{Allows, next}
use Rattle.refinement.proofs.Steps.{OnlyIs}
use Rattle.refinement.proofs.FollowsCursors as cursors
use Rattle.refinement.proofs.Runs.{unmade}
use Rattle.sessions.specs.declared.session.Session.{Session}
use Rattle.sessions.specs.declared.session.SessionIsolation.{SessionIsolation}
use Rattle.sessions.specs.declared.session.SessionIsolation.TheVariants.{BySnapshot, ByStatement}
use Rattle.session_steps.specs.Exact.{HasCursor, OpensCursor}
use Rattle.table_scans.specs.declared.progress.CursorScan.{CursorScan}
use Rattle.table_scans.specs.declared.progress.CursorScan.TheVariants.{Rows}
use Rattle.table_scans.specs.declared.progress.Scan.TheVariants.{Index, Heap}
use Rattle.index_lookup.specs.declared.index_scan.IndexRange.{IndexRange}
use Rattle.session_steps.specs.State.{State, session_at, put_session, with_cursor, isolation_seen, seen, position_of, reader_of, engine_sessions}
use Rattle.history.specs.Moves.{without_cursor, opened}
use Rattle.sessions.specs.Session.{keeping, kept_by, IsByStatement, is_too_new}
use Rattle.session_steps.specs.Agrees.{Agrees, Sound, SessionKeeps, Follows, KeepsAllTargets}
use Rattle.session_steps.proofs.InUse.{GoesAlong, used-still, marks-put, no-cursor, scans-put, agree}
use Rattle.session_steps.proofs.Scanning.{opened-scans}
use Rattle.sound_entries.specs.Since.{MayScanSince}
use Rattle.history.specs.Cursors.{rows_within}
use Rattle.session_steps.proofs.OwnIdsLemmas.{open-within, open-set_cases}
use Rattle.session_steps.proofs.StateLemmas.{only-set}
use Rattle.session_steps.proofs.Owns.{reader-is, now_taken, taken-fresh, taken-within}
use Rattle.session_steps.proofs.WrittenLemmas.{written-put}
use Rattle.session_steps.proofs.Statements.{kept-after}
use Rattle.session_steps.proofs.Follows.{Follows-same, stays-so, free_by, bare_by, some-position, led-same, Sound-put}

pub Follows-barred_open_index : (st : State) (s index : ℕ) (low high : ℤ) (r : Refusal) → BarsFree (engine_sessions st) s r → Follows st (step.OpenIndex s index low high) (reply.Refused r) st
Follows-barred_open_index st s index low high r is =
    Follows-same st (step.OpenIndex s index low high) (reply.Refused r) tt (cursors.Follows-barred_open_index (seen st) s index low high r (free_by st s r is))

pub Follows-barred_open_heap : (st : State) (s : ℕ) (r : Refusal) → BarsFree (engine_sessions st) s r → Follows st (step.OpenHeap s) (reply.Refused r) st
Follows-barred_open_heap st s r is = Follows-same st (step.OpenHeap s) (reply.Refused r) tt (cursors.Follows-barred_open_heap (seen st) s r (free_by st s r is))

pub Follows-bare_close : (st : State) (s : ℕ) (r : Refusal) → BarsWithCursor (engine_sessions st) s r → Follows st (step.Close s) (reply.Refused r) st
Follows-bare_close st s r is = Follows-same st (step.Close s) (reply.Refused r) tt (cursors.Follows-bare_close (seen st) s r (bare_by st s r is))

-- An index that is not there is not in use.

pub not-used : (n : ℕ) (indexes : IndexesView) → index_at indexes n ≡ None → ¬ IsInUse indexes n
not-used n indexes none used = absurd (let e = ap (λ (o : Option IndexView). option_map (λ (i : IndexView). i.entries) o) none in let f = subst (λ (o : Option _). IsSome o) e used in cc)

pub absent : (b : Bool) → ¬ (b ≡ true) → b ≡ false
absent true not = absurd (not refl)
absent false not = refl

pub Follows-no_such_index : (st : State) (s : ℕ) (e : Session) (index : ℕ) (low high : ℤ) → session_at st s ≡ Some e → e.failed ≡ false → e.cursor ≡ None → index_at st.heap.indexes index ≡ None
    → Follows st (step.OpenIndex s index low high) (reply.Refused refusal.NoSuchIndex) st
Follows-no_such_index st s e index low high at sound bare none w agrees =
    let has = absent (w.has_index index) (λ has. not-used index st.heap.indexes none ((agrees.indexes index).1 has)) in
    stays-so st w (step.OpenIndex s index low high) (reply.Refused refusal.NoSuchIndex) tt agrees
    (cursors.Follows-no_such_index (seen st) s (reader_of e) index low high (reader-is st s e at) sound (ap position_of bare) w has agrees.found)

-- An index that was made while the session was open by snapshot.

pub Follows-index_too_new : (st : State) (s : ℕ) (e : Session) (index : ℕ) (low high : ℤ) → session_at st s ≡ Some e → e.failed ≡ false → e.cursor ≡ None → IsInUse st.heap.indexes index → is_too_new e index ≡ true
    → Follows st (step.OpenIndex s index low high) (reply.Refused refusal.IndexTooNew) st
Follows-index_too_new st s e index low high at sound bare used mark w agrees =
    stays-so st w (step.OpenIndex s index low high) (reply.Refused refusal.IndexTooNew) tt agrees
    (cursors.Follows-index_too_new (seen st) s (reader_of e) index low high (reader-is st s e at) sound (ap position_of bare) w ((agrees.indexes index).0 used, agrees.scans s e at index ∙ mark) agrees.found)

-- the history lets the session scan it
may-scan : (st : State) (w : World) (s : ℕ) (e : Session) (index : ℕ) → session_at st s ≡ Some e → Agrees st w → IsInUse st.heap.indexes index → is_too_new e index ≡ false → MayScan w s index
may-scan st w s e index at agrees used may = ((agrees.indexes index).0 used, agrees.scans s e at index ∙ may)

pub Follows-bad_bounds : (st : State) (s : ℕ) (e : Session) (index : ℕ) (low high : ℤ) → session_at st s ≡ Some e → e.failed ≡ false → e.cursor ≡ None → IsInUse st.heap.indexes index → is_too_new e index ≡ false → high <ℤ low
    → Follows st (step.OpenIndex s index low high) (reply.Refused refusal.BadBounds) st
Follows-bad_bounds st s e index low high at sound bare used may order w agrees =
    stays-so st w (step.OpenIndex s index low high) (reply.Refused refusal.BadBounds) tt agrees
    (cursors.Follows-bad_bounds (seen st) s (reader_of e) index low high (reader-is st s e at) sound (ap position_of bare) order w (may-scan st w s e index at agrees used may) agrees.found)

-- There is no memory for the snapshot that a cursor by statement keeps.

pub seen-by_statement : (isolation : SessionIsolation) → IsByStatement isolation → cursors.IsSeenByStatement (isolation_seen isolation)
seen-by_statement (BySnapshot snap) by = absurd by
seen-by_statement (ByStatement kept) by = tt

pub Follows-open_index_no_memory : (st : State) (s : ℕ) (e : Session) (index : ℕ) (low high : ℤ) → session_at st s ≡ Some e → e.failed ≡ false → e.cursor ≡ None → IsInUse st.heap.indexes index → is_too_new e index ≡ false → low ≤ℤ high
    → IsByStatement e.isolation → Follows st (step.OpenIndex s index low high) (reply.Refused refusal.NoMemory) st
Follows-open_index_no_memory st s e index low high at sound bare used may order by w agrees =
    stays-so st w (step.OpenIndex s index low high) (reply.Refused refusal.NoMemory) tt agrees
    (cursors.Follows-open_index_no_memory (seen st) s (reader_of e) index low high (reader-is st s e at) sound (ap position_of bare) order (seen-by_statement e.isolation by) w (may-scan st w s e index at agrees used may) agrees.found)

pub Follows-open_heap_no_memory : (st : State) (s : ℕ) (e : Session) → session_at st s ≡ Some e → e.failed ≡ false → e.cursor ≡ None → IsByStatement e.isolation → Follows st (step.OpenHeap s) (reply.Refused refusal.NoMemory) st
Follows-open_heap_no_memory st s e at sound bare by =
    Follows-same st (step.OpenHeap s) (reply.Refused refusal.NoMemory) tt (cursors.Follows-open_heap_no_memory (seen st) s (reader_of e) (reader-is st s e at) sound (ap position_of bare) (seen-by_statement e.isolation by))

-- A session's cursor moves, and nothing else changes.

keeps-cursor : (st : State) (e : Session) (cursor : CursorScan) → SessionKeeps st.heap.statuses e → SessionKeeps st.heap.statuses (with_cursor (Some cursor) e)
keeps-cursor st e cursor h = record { snapshot = h.snapshot; for_cursor = λ by kept. refl; topmost = h.topmost; prefixes = h.prefixes; distinct = h.distinct }

module _ (st st' : State) (s : ℕ) (e : Session) (cursor : CursorScan) (at : session_at st s ≡ Some e) (is : st' ≡ put_session st s (option_map (with_cursor (Some cursor)) (session_at st s))) where
  pub moved : st' ≡ put_session st s (Some (with_cursor (Some cursor) e))
  moved = is ∙ ap (λ o. put_session st s (option_map (with_cursor (Some cursor)) o)) at

  pub only-cursor : OnlyIs (seen st).session (seen (put_session st s (Some (with_cursor (Some cursor) e)))).session s (Some (record (reader_of e) { cursor = position_of (Some cursor) }))
  only-cursor = let only = only-set st s (Some (with_cursor (Some cursor) e)) (open-within st.sessions s e at) in record { others = only.others; itself = only.itself }

  pub sound-cursor : GoesAlong st.heap.statuses st.heap.indexes e.isolation (Some cursor) → Sound st → Sound (put_session st s (Some (with_cursor (Some cursor) e)))
  sound-cursor along sound = Sound-put st s e (with_cursor (Some cursor) e) at (keeps-cursor st e cursor (sound.sessions s e at))
      (record { by_snapshot = λ n snap reads may. (sound.scans s e at).by_snapshot n snap reads may; cursor = along }) sound

-- A cursor is opened or closed: by statement the session keeps a snapshot for it, or none any more.

abbrev pub with_both : Option CursorScan → Option Snap → Session → Session
with_both cursor kept e = record e { isolation = keeping kept e.isolation; cursor = cursor }

-- by statement it keeps one only where it has a cursor
for-both : (i : SessionIsolation) (cursor : Option CursorScan) (kept : Option Snap) → (IsSome kept → IsSome cursor) → IsByStatement (keeping kept i) → IsSome (kept_by (keeping kept i)) → IsSome cursor
for-both (BySnapshot snap) cursor kept some by keeps = absurd by
for-both (ByStatement old) cursor kept some by keeps = some keeps

-- by snapshot it reads as before
still-by_snapshot : (i : SessionIsolation) (kept : Option Snap) (snap : Snap) → keeping kept i ≡ BySnapshot snap → i ≡ BySnapshot snap
still-by_snapshot (BySnapshot own) kept snap is = is
still-by_snapshot (ByStatement old) kept snap is = absurd (cc)

module _ (st : State) (w : World) (s : ℕ) (e : Session) (cursor : Option CursorScan) (kept : Option Snap) (at : session_at st s ≡ Some e) (agrees : Agrees st w) (fresh : (snap : Snap) → kept ≡ Some snap → snap ≡ now_taken st) where
  keeps-both : (IsSome kept → IsSome cursor) → SessionKeeps st.heap.statuses (with_both cursor kept e)
  keeps-both some = let h = agrees.sound.sessions s e at in
      record {
        snapshot = λ snap is. elim (kept-after e.isolation kept snap is) [ inl old ↦ h.snapshot snap old | inr new ↦ rw (fresh snap new) (taken-within st w agrees) ];
        for_cursor = for-both e.isolation cursor kept some;
        topmost = h.topmost;
        prefixes = h.prefixes;
        distinct = h.distinct;
      }

  pub sound-both : (IsSome kept → IsSome cursor) → GoesAlong st.heap.statuses st.heap.indexes (keeping kept e.isolation) cursor → Sound (put_session st s (Some (with_both cursor kept e)))
  sound-both some along = record {
    count = length-set st.sessions s (Some (with_both cursor kept e)) ∙ agrees.sound.count;
    max_pages = agrees.sound.max_pages;
    stop_age = agrees.sound.stop_age;
    window = agrees.sound.window;
    sessions = λ o f bt. elim (open-set_cases st.sessions s o (Some (with_both cursor kept e)) f (open-within st.sessions s e at) bt) [
      | inl is ↦ subst (λ f. SessionKeeps st.heap.statuses f) (same_Some (with_both cursor kept e) f is.1) (keeps-both some)
      | inr other ↦ agrees.sound.sessions o f other.1
    ];
    tops = agrees.sound.tops;
    by_key = agrees.sound.by_key;
    since = agrees.sound.since;
    scans = scans-put st.heap.statuses st.heap.indexes st.sessions s (with_both cursor kept e) (open-within st.sessions s e at) (record {
      by_snapshot = λ n snap reads may. (agrees.sound.scans s e at).by_snapshot n snap (still-by_snapshot e.isolation kept snap reads) may;
      cursor = along;
    }) agrees.sound.scans;
    table = agrees.sound.table;
  }

-- what readers see of it

pub put-both : (st st' : State) (s : ℕ) (e : Session) (cursor : Option CursorScan) (kept : Option Snap) → session_at st s ≡ Some e → HasCursor st st' s cursor kept → st' ≡ put_session st s (Some (with_both cursor kept e))
put-both st st' s e cursor kept at is = is ∙ ap (λ o. put_session st s (option_map (with_both cursor kept) o)) at

pub only-both : (st : State) (s : ℕ) (e : Session) (cursor : Option CursorScan) (kept : Option Snap) → session_at st s ≡ Some e
    → OnlyIs (seen st).session (seen (put_session st s (Some (with_both cursor kept e)))).session s (Some (record (reader_of e) { isolation = isolation_seen (keeping kept e.isolation); cursor = position_of cursor }))
only-both st s e cursor kept at = let only = only-set st s (Some (with_both cursor kept e)) (open-within st.sessions s e at) in record { others = only.others; itself = only.itself }

pub opens-by : (st : State) (w : World) (i : SessionIsolation) → Agrees st w → cursors.OpensBy (seen st) (isolation_seen i) (isolation_seen (keeping (Some (now_taken st)) i))
opens-by st w (BySnapshot snap) agrees = refl
opens-by st w (ByStatement old) agrees = (now_taken st, refl, taken-fresh st w agrees)

without-kept : (i : SessionIsolation) → isolation_seen (keeping None i) ≡ cursors.without_kept (isolation_seen i)
without-kept (BySnapshot snap) = refl
without-kept (ByStatement old) = refl

-- the cursor that is opened goes along an index that the session may scan
along-span : (st : State) (w : World) (s : ℕ) (e : Session) (span : IndexRange) → Agrees st w → session_at st s ≡ Some e → IsInUse st.heap.indexes span.index → is_too_new e span.index ≡ false
    → GoesAlong st.heap.statuses st.heap.indexes (keeping (Some (now_taken st)) e.isolation) (Some (Rows (Index span)))
along-span st w s e span agrees at used may other is =
    let same : span ≡ other = cc in
    subst (λ (span : IndexRange). IsInUse st.heap.indexes span.index × ((snap : Snap) → kept_by (keeping (Some (now_taken st)) e.isolation) ≡ Some snap → MayScanSince st.heap.statuses (since_at st.heap.indexes span.index) snap)) same
    (used, opened-scans st w agrees span.index s e at may)

-- what is taken now is kept
pub taken-alone : (st : State) (snap : Snap) → Some (now_taken st) ≡ Some snap → snap ≡ now_taken st
taken-alone st snap is = sym (same_Some (now_taken st) snap is)

-- what is kept is what the session keeps of the snapshot that is taken now
pub opens-as : (st st' : State) (s : ℕ) (e : Session) (cursor : CursorScan) (kept : Option Snap) → session_at st s ≡ Some e → keeping kept e.isolation ≡ keeping (Some (now_taken st)) e.isolation
    → HasCursor st st' s (Some cursor) kept → OpensCursor st st' s cursor
opens-as st st' s e cursor kept at same is =
    put-both st st' s e (Some cursor) kept at is ∙ ap (λ (i : SessionIsolation). put_session st s (Some (record e { isolation = i; cursor = Some cursor }))) same
    ∙ sym (ap (λ o. put_session st s (option_map (with_both (Some cursor) (Some (now_taken st))) o)) at)

pub Follows-opened_index : (st st' : State) (s : ℕ) (e : Session) (span : IndexRange) → session_at st s ≡ Some e → e.failed ≡ false → e.cursor ≡ None → span.low ≤ℤ span.high → span.last ≡ None → IsInUse st.heap.indexes span.index → is_too_new e span.index ≡ false
    → OpensCursor st st' s (Rows (Index span)) → Follows st (step.OpenIndex s span.index span.low span.high) reply.Done st'
Follows-opened_index st st' s e span at sound bare order none used may is w agrees =
    let now = put_session st s (Some (with_both (Some (Rows (Index span))) (Some (now_taken st)) e)) in
    let position : position_of (Some (Rows (Index span))) ≡ Some (relation.in_index span.index span.low span.high None) = rw none refl in
    let isolation = isolation_seen (keeping (Some (now_taken st)) e.isolation) in
    let only = subst (λ p. OnlyIs (seen st).session (seen now).session s (Some (record (reader_of e) { isolation = isolation; cursor = p }))) position (only-both st s e (Some (Rows (Index span))) (Some (now_taken st)) at) in
    let f = cursors.Follows-open_index (seen st) s (reader_of e) span.index span.low span.high isolation (seen now).session only (λ w' found. opens-by st w e.isolation agrees)
    (reader-is st s e at) sound (ap position_of bare) order w (may-scan st w s e span.index at agrees used may) agrees.found in
    subst (λ st'. Allows w (step.OpenIndex s span.index span.low span.high) reply.Done × Agrees st' (next w (step.OpenIndex s span.index span.low span.high) reply.Done) × KeepsAllTargets st st')
    (sym (put-both st st' s e (Some (Rows (Index span))) (Some (now_taken st)) at is)) (
      f.0,
      agree agrees (used-still st.heap.indexes) (marks-put st.sessions s e (with_both (Some (Rows (Index span))) (Some (now_taken st)) e) at refl) (unmade refl refl)
          (written-put st w s e (with_both (Some (Rows (Index span))) (Some (now_taken st)) e) (opened w.history (by_index span.index) (rows_within span.index span.low span.high)) at agrees (λ m there. agrees.written s e m at there)) f.1
          (sound-both st w s e (Some (Rows (Index span))) (Some (now_taken st)) at agrees (taken-alone st) (λ some. refl) (along-span st w s e span agrees at used may)),
      led-same st w agrees,
    )

pub Follows-opened_heap : (st st' : State) (s : ℕ) (e : Session) → session_at st s ≡ Some e → e.failed ≡ false → e.cursor ≡ None → OpensCursor st st' s (Rows (Heap heap_start)) → Follows st (step.OpenHeap s) reply.Done st'
Follows-opened_heap st st' s e at sound bare is w agrees =
    let now = put_session st s (Some (with_both (Some (Rows (Heap heap_start))) (Some (now_taken st)) e)) in
    let f = cursors.Follows-open_heap (seen st) s (reader_of e) (isolation_seen (keeping (Some (now_taken st)) e.isolation)) (seen now).session (only-both st s e (Some (Rows (Heap heap_start))) (Some (now_taken st)) at)
    (λ w' found. opens-by st w e.isolation agrees) (reader-is st s e at) sound (ap position_of bare) w agrees.found in
    subst (λ st'. Allows w (step.OpenHeap s) reply.Done × Agrees st' (next w (step.OpenHeap s) reply.Done) × KeepsAllTargets st st') (sym (put-both st st' s e (Some (Rows (Heap heap_start))) (Some (now_taken st)) at is)) (
      f.0,
      agree agrees (used-still st.heap.indexes) (marks-put st.sessions s e (with_both (Some (Rows (Heap heap_start))) (Some (now_taken st)) e) at refl) (unmade refl refl)
          (written-put st w s e (with_both (Some (Rows (Heap heap_start))) (Some (now_taken st)) e) (opened w.history by_heap (λ rows. rows)) at agrees (λ m there. agrees.written s e m at there)) f.1
          (sound-both st w s e (Some (Rows (Heap heap_start))) (Some (now_taken st)) at agrees (taken-alone st) (λ some. refl) (λ span here. absurd (cc))),
      led-same st w agrees,
    )

pub Follows-closed_cursor : (st st' : State) (s : ℕ) (e : Session) → session_at st s ≡ Some e → e.failed ≡ false → IsSome e.cursor → HasCursor st st' s None None → Follows st (step.Close s) reply.Done st'
Follows-closed_cursor st st' s e at sound some is w agrees =
    let now = put_session st s (Some (with_both None None e)) in
    let only = subst (λ i. OnlyIs (seen st).session (seen now).session s (Some (record (reader_of e) { isolation = i; cursor = None }))) (without-kept e.isolation) (only-both st s e None None at) in
    let f = cursors.Follows-close (seen st) s (reader_of e) (seen now).session only (reader-is st s e at) sound (some-position e.cursor some) w agrees.found in
    subst (λ st'. Allows w (step.Close s) reply.Done × Agrees st' (next w (step.Close s) reply.Done) × KeepsAllTargets st st') (sym (put-both st st' s e None None at is)) (
      f.0,
      agree agrees (used-still st.heap.indexes) (marks-put st.sessions s e (with_both None None e) at refl) (unmade refl refl)
          (written-put st w s e (with_both None None e) without_cursor at agrees (λ m there. agrees.written s e m at there)) f.1
          (sound-both st w s e None None at agrees (λ snap none. absurd (none-some snap none)) (λ some. some) (no-cursor st.heap.statuses st.heap.indexes (keeping None e.isolation) None refl)),
      led-same st w agrees,
    )

abbrev pub span-of : ℕ → ℤ → ℤ → IndexRange
span-of index low high = record { index = index; low = low; high = high; last = None }

-- Bounds as they are compared.

below-bounds : (low high : ℤ) → SFits w128 low → SFits w128 high → lt_z (to_z w128 (of_z w128 high)) (to_z w128 (of_z w128 low)) ≡ lt_z high low
below-bounds low high fits-low fits-high = rw (to_z-of_z w128 low fits-low, to_z-of_z w128 high fits-high) refl

pub over-bounds : (low high : ℤ) → SFits w128 low → SFits w128 high → lt_z (to_z w128 (of_z w128 high)) (to_z w128 (of_z w128 low)) ≡ true → high <ℤ low
over-bounds low high fits-low fits-high is = let lt : lt_z high low ≡ true = sym (below-bounds low high fits-low fits-high) ∙ is in grind (arith, ints, nat_tests, lt)

pub in-bounds : (low high : ℤ) → SFits w128 low → SFits w128 high → lt_z (to_z w128 (of_z w128 high)) (to_z w128 (of_z w128 low)) ≡ false → low ≤ℤ high
in-bounds low high fits-low fits-high is = let lt : lt_z high low ≡ false = sym (below-bounds low high fits-low fits-high) ∙ is in grind (arith, ints, nat_tests, lt)

-- and as they are kept
pub stored-span : (index : ℕ) (low high : ℤ) → SFits w128 low → SFits w128 high → span-of index (to_z w128 (of_z w128 low)) (to_z w128 (of_z w128 high)) ≡ span-of index low high
stored-span index low high fits-low fits-high = rw (to_z-of_z w128 low fits-low, to_z-of_z w128 high fits-high) refl

pub stored-step : (s index : ℕ) (low high : ℤ) → SFits w128 low → SFits w128 high → step.OpenIndex s index (to_z w128 (of_z w128 low)) (to_z w128 (of_z w128 high)) ≡ step.OpenIndex s index low high
stored-step s index low high fits-low fits-high = rw (to_z-of_z w128 low fits-low, to_z-of_z w128 high fits-high) refl
