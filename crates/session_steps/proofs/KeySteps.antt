-- A session opens a cursor over keys alone: the engine follows the history.
use Rattle.std.proofs.Common.{SFits, to_z, of_z, ◌≡◌, ℕ, ℤ, ◌≤ℤ◌, ◌<ℤ◌, Some, None, false, refl, sym, ap, subst}
use Rattle.std.proofs.lemmas.Int.{to_z-of_z}
use Rattle.std.specs.Int.{w128}
use Rattle.calls.specs.declared.step.Step.TheVariants as step
use Rattle.calls.specs.declared.reply.Reply.TheVariants as reply
use Rattle.calls.specs.declared.reply.Refusal.{Refusal}
use Rattle.calls.specs.declared.reply.Refusal.TheVariants as refusal
use Rattle.calls.specs.Bars.{BarsFree}
use Rattle.refinement.specs.Heap as relation
use Rattle.refinement.specs.Allowed.{Allows, next}
use Rattle.refinement.proofs.Steps.{OnlyIs}
use Rattle.refinement.proofs.FollowsKeys as keys
use Rattle.refinement.proofs.Runs.{unmade}
use Rattle.table_scans.specs.declared.progress.CursorScan.TheVariants.{Keys}
use Rattle.table_scans.specs.declared.progress.KeyRange.{KeyRange}
use Rattle.history.specs.Moves.{opened}
use Rattle.history.specs.World.{by_keys}
use Rattle.history.specs.Cursors.{rows_within}
use Rattle.sessions.specs.declared.session.Session.{Session}
use Rattle.session_steps.specs.State.{State, session_at, put_session, isolation_seen, seen, position_of, reader_of, engine_sessions}
use Rattle.sessions.specs.Session.{keeping, IsByStatement}
use Rattle.session_steps.specs.Agrees.{Agrees, Follows, KeepsAllTargets}
use Rattle.session_steps.specs.Exact.{OpensCursor}
use Rattle.session_steps.proofs.InUse.{used-still, marks-put, agree}
use Rattle.session_steps.proofs.Owns.{reader-is, now_taken}
use Rattle.session_steps.proofs.WrittenLemmas.{written-put}
use Rattle.session_steps.proofs.Follows.{Follows-same, free_by, led-same}
use Rattle.session_steps.proofs.CursorSteps.{seen-by_statement, with_both, put-both, only-both, opens-by, taken-alone, sound-both}

pub Follows-barred_open_keys : (st : State) (s : ℕ) (low high : ℤ) (r : Refusal) → BarsFree (engine_sessions st) s r → Follows st (step.OpenKeys s low high) (reply.Refused r) st
Follows-barred_open_keys st s low high r is = Follows-same st (step.OpenKeys s low high) (reply.Refused r) tt (keys.Follows-barred_open_keys (seen st) s low high r (free_by st s r is))

pub Follows-bad_key_bounds : (st : State) (s : ℕ) (e : Session) (low high : ℤ) → session_at st s ≡ Some e → e.failed ≡ false → e.cursor ≡ None → high <ℤ low
    → Follows st (step.OpenKeys s low high) (reply.Refused refusal.BadBounds) st
Follows-bad_key_bounds st s e low high at sound bare order =
    Follows-same st (step.OpenKeys s low high) (reply.Refused refusal.BadBounds) tt (keys.Follows-bad_key_bounds (seen st) s (reader_of e) low high (reader-is st s e at) sound (ap position_of bare) order)

pub Follows-open_keys_no_memory : (st : State) (s : ℕ) (e : Session) (low high : ℤ) → session_at st s ≡ Some e → e.failed ≡ false → e.cursor ≡ None → low ≤ℤ high
    → IsByStatement e.isolation → Follows st (step.OpenKeys s low high) (reply.Refused refusal.NoMemory) st
Follows-open_keys_no_memory st s e low high at sound bare order by =
    Follows-same st (step.OpenKeys s low high) (reply.Refused refusal.NoMemory) tt (keys.Follows-open_keys_no_memory (seen st) s (reader_of e) low high (reader-is st s e at) sound (ap position_of bare) order (seen-by_statement e.isolation by))

pub Follows-opened_keys : (st st' : State) (s : ℕ) (e : Session) (range : KeyRange) → session_at st s ≡ Some e → e.failed ≡ false → e.cursor ≡ None → range.low ≤ℤ range.high → range.last ≡ None
    → OpensCursor st st' s (Keys range) → Follows st (step.OpenKeys s range.low range.high) reply.Done st'
Follows-opened_keys st st' s e range at sound bare order none is w agrees =
    let now = put_session st s (Some (with_both (Some (Keys range)) (Some (now_taken st)) e)) in
    let position : position_of (Some (Keys range)) ≡ Some (relation.in_keys range.low range.high None) = rw none refl in
    let isolation = isolation_seen (keeping (Some (now_taken st)) e.isolation) in
    let only = subst (λ p. OnlyIs (seen st).session (seen now).session s (Some (record (reader_of e) { isolation = isolation; cursor = p }))) position (only-both st s e (Some (Keys range)) (Some (now_taken st)) at) in
    let f = keys.Follows-open_keys (seen st) s (reader_of e) range.low range.high isolation (seen now).session only (λ w' found. opens-by st w e.isolation agrees)
    (reader-is st s e at) sound (ap position_of bare) order w agrees.found in
    subst (λ st'. Allows w (step.OpenKeys s range.low range.high) reply.Done × Agrees st' (next w (step.OpenKeys s range.low range.high) reply.Done) × KeepsAllTargets st st')
    (sym (put-both st st' s e (Some (Keys range)) (Some (now_taken st)) at is)) (
      f.0,
      agree agrees (used-still st.heap.indexes) (marks-put st.sessions s e (with_both (Some (Keys range)) (Some (now_taken st)) e) at refl) (unmade refl refl)
          (written-put st w s e (with_both (Some (Keys range)) (Some (now_taken st)) e) (opened w.history by_keys (rows_within 0 range.low range.high)) at agrees (λ m there. agrees.written s e m at there)) f.1
          (sound-both st w s e (Some (Keys range)) (Some (now_taken st)) at agrees (taken-alone st) (λ some. refl) (λ span here. absurd (cc))),
      led-same st w agrees,
    )

-- Bounds as they are kept.

abbrev pub keys-of : ℤ → ℤ → KeyRange
keys-of low high = record { low = low; high = high; last = None }

pub stored-keys : (low high : ℤ) → SFits w128 low → SFits w128 high → keys-of (to_z w128 (of_z w128 low)) (to_z w128 (of_z w128 high)) ≡ keys-of low high
stored-keys low high fits-low fits-high = rw (to_z-of_z w128 low fits-low, to_z-of_z w128 high fits-high) refl

pub stored-open_keys : (s : ℕ) (low high : ℤ) → SFits w128 low → SFits w128 high → step.OpenKeys s (to_z w128 (of_z w128 low)) (to_z w128 (of_z w128 high)) ≡ step.OpenKeys s low high
stored-open_keys s low high fits-low fits-high = rw (to_z-of_z w128 low fits-low, to_z-of_z w128 high fits-high) refl
