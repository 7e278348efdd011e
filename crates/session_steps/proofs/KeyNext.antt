-- A session asks its cursor over keys alone for keys: where what is noted of the pages holds, the engine follows the history.
use Rattle.std.proofs.Common.{◌≡◌, ℕ, ◌<◌, ◌^◌, max, List, length, Some, false, refl, sym, ap, ◌∙◌, subst, arith}
use Rattle.std.specs.Option.{option_map}
use Rattle.std.specs.Prelude.{Vec}
use Rattle.std.specs.declared.alloc.Global.{Global}
use Rattle.std.proofs.lemmas.List.{length-map}
use denote.RawPtr.{null_ptr}
use Rattle.tuple_header.specs.declared.version.Row.{Row}
use Rattle.history.specs.Cursors.{keys_of}
use Rattle.calls.specs.declared.step.Step.TheVariants as step
use Rattle.calls.specs.declared.reply.Reply.TheVariants as reply
use Rattle.refinement.specs.Allowed.{Allows, next}
use Rattle.refinement.specs.Heap.{in_keys}
use Rattle.refinement.proofs.Steps.{OnlyIs}
use Rattle.refinement.proofs.FollowsKeys as cursors
use Rattle.refinement.proofs.Runs.{unmade}
use Rattle.table_scans.specs.declared.progress.CursorScan.TheVariants.{Keys}
use Rattle.table_scans.specs.declared.progress.KeyRange.{KeyRange}
use Rattle.table_scans.specs.Keys.{TakesKeys, TakesSomeKeys}
use Rattle.sessions.specs.declared.session.Session.{Session}
use Rattle.session_steps.specs.State.{State, session_at, put_session, with_cursor, seen, seen_position, position_of, reader_of}
use Rattle.history.specs.Moves.{with_taken}
use Rattle.session_steps.specs.Agrees.{Agrees, Follows, KeepsAllTargets, NotesHold}
use Rattle.session_steps.specs.Takes.{session_sight, HandsOutByKeys}
use Rattle.session_steps.proofs.InUse.{used-still, marks-put, agree}
use Rattle.session_steps.proofs.Owns.{reader-is}
use Rattle.session_steps.proofs.WrittenLemmas.{written-put}
use Rattle.session_steps.proofs.Follows.{led-same}
use Rattle.session_steps.proofs.AtCursor.{IsAtCursor}
use Rattle.session_steps.proofs.CursorSteps.{moved, only-cursor, sound-cursor}
use Rattle.session_steps.proofs.KeyWalks.{still-within, within-comes, keys-walk, none-left}

-- there are as many keys as rows
as-many : (keys : List ℕ) (rows : List Row) → keys ≡ keys_of rows → length rows ≡ length keys
as-many keys rows are = sym (ap length are ∙ length-map rows (λ (r : Row). r.key))

module _ (st st' : State) (s n : ℕ) (e : Session) (range left : KeyRange) (keys : Vec ℕ Global) (at : session_at st s ≡ Some e) (sound : e.failed ≡ false) (opened : e.cursor ≡ Some (Keys range))
    (is : st' ≡ put_session st s (option_map (with_cursor (Some (Keys left))) (session_at st s))) where
  abbrev now : State
  now = put_session st s (Some (with_cursor (Some (Keys left)) e))

  only-keys : left ≡ record range { last = left.last }
      → OnlyIs (seen st).session (seen now).session s (Some (record (reader_of e) { cursor = Some (in_keys range.low range.high (seen_position left.last)) }))
  only-keys same = subst (λ (r : KeyRange). OnlyIs (seen st).session (seen now).session s (Some (record (reader_of e) { cursor = Some (in_keys r.low r.high (seen_position left.last)) }))) same
      (only-cursor st st' s e (Keys left) at is)

  pub Follows-keys : TakesSomeKeys (session_sight st e) range n keys.items left → NotesHold st → Follows st (step.Next s n) (reply.Keys keys) st'
  Follows-keys taken hold w agrees =
      let here : IsAtCursor st e (Keys range) = record { world = w; agrees = agrees; number = s; there = at; opened = opened } in
      let same = still-within taken.takes.scans in
      let walks = keys-walk here hold taken.takes.scans in
      let count = as-many keys.items walks.rows walks.are in
      let some = taken.some in
      let most = taken.takes.at_most in
      let f = cursors.Follows-next_of_keys (seen st) s (reader_of e) range.low range.high (seen_position range.last) (seen_position left.last) n walks.rows keys (seen now).session
      (only-keys same) (reader-is st s e at) sound (ap position_of opened) walks.meets walks.are (omega (arith, count, some)) (omega (arith, count, most))
      (λ fewer row comes. none-left st e range left here (taken.takes.all (omega (arith, count, fewer))) row (within-comes st e range left row same comes)) w agrees.found in
      subst (λ st'. Allows w (step.Next s n) (reply.Keys keys) × Agrees st' (next w (step.Next s n) (reply.Keys keys)) × KeepsAllTargets st st') (sym (moved st st' s e (Keys left) at is)) (
        f.0,
        agree agrees (used-still st.heap.indexes) (marks-put st.sessions s e (with_cursor (Some (Keys left)) e) at refl) (unmade refl refl)
            (written-put st w s e (with_cursor (Some (Keys left)) e) (with_taken keys.items) at agrees (λ m there. agrees.written s e m at there)) f.1
            (sound-cursor st st' s e (Keys left) at is (λ span along. absurd (cc)) agrees.sound),
        led-same st w agrees,
      )

  -- and so exactly
  pub hands-out_keys : TakesKeys (session_sight st e) range left (max 1 n) keys.items → HandsOutByKeys st st' s n keys.items
  hands-out_keys taken = record { session = e; there = at; before = range; at = opened; after = left; takes = taken; is = moved st st' s e (Keys left) at is }

-- A reply that has these keys.
abbrev pub with_keys : (keys : List ℕ) → length keys < 2 ^ 63 → Vec ℕ Global
with_keys keys fits = record { ptr = null_ptr; len = length keys; cap = length keys; alloc = record { memory = record { seal = tt } }; items = keys; ok = (refl, omega arith); small = fits }
