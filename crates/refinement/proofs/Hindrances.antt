-- What keeps a session from a write: the reply is one that the history allows, and the engine agrees with the next world.
use Rattle.std.proofs.Common.{◌≡◌, ◌≢◌, ℕ, ◌<◌, length, Option, Some, None, true, false, refl, sym, ap, ◌∙◌, subst}
use Rattle.std.specs.Prelude.{IsSome, Contains}
use Rattle.std.specs.Option.{option_map}
use Rattle.std.proofs.lemmas.Option.{same_Some, none-some}
use Rattle.tuple_header.specs.declared.version.Row.{Row}
use Rattle.history.specs.History.{IsLate}
use Rattle.history.specs.World.{World, OpenSession, own_write, view, Holds, IsWriter, MayWrite, world_sessions, start_now}
use Rattle.history.specs.Moves.{put, change, as_failed}
use Rattle.calls.specs.declared.step.Step.TheVariants as step
use Rattle.calls.specs.declared.reply.Reply.TheVariants as reply
use Rattle.calls.specs.declared.reply.Refusal.{Refusal}
use Rattle.calls.specs.declared.reply.Refusal.TheVariants as refusal
use Rattle.calls.specs.Words.{RowToWrite, FitsRow}
use Rattle.calls.specs.Writes.{WriteStep, inserts, updates, deletes, step_of, key_of, Asks}
use Rattle.calls.specs.Bars.{BarsFree}
use Rattle.calls.proofs.BarsLemmas.{of_free}
use Rattle.refinement.specs.Allowed.{AllowsHindered, AllowsWrite, after_refused_write}
use Rattle.refinement.specs.Heap.{SeenSession, Heap, seen_sessions}
use Rattle.refinement.specs.Agrees.{HeapAgrees}
use Rattle.refinement.specs.Finds.{IsLateFor, IsHeldBy, BeginsWrite, Free, HeapFollows}
use Rattle.refinement.proofs.Steps.{OnlyIs, own_traced, Agrees-fail}
use Rattle.refinement.proofs.Follows.{allows_barred, Agrees-stepped, found_is_view}

-- one reply for the three kinds of write

Follows-refused : (h h' : Heap) (s : ℕ) (r : Refusal) (write : WriteStep)
    → ((w : World) → HeapAgrees h w → AllowsHindered w s r write × HeapAgrees h' (after_refused_write w s r)) → HeapFollows h (step_of s write) (reply.Refused r) h'
Follows-refused h h' s r (inserts row) follows = follows
Follows-refused h h' s r (updates row) follows = follows
Follows-refused h h' s r (deletes k) follows = follows

-- Before the key counts.

pub Follows-barred_write : (h : Heap) (s : ℕ) (write : WriteStep) (r : Refusal) → BarsFree (seen_sessions h) s r → HeapFollows h (step_of s write) (reply.Refused r) h
Follows-barred_write h s write r is = Follows-refused h h s r write (λ w agrees.
    let stays = Agrees-stepped h w s agrees in
    of_free (world_sessions w) s (λ r. AllowsHindered w s r write × HeapAgrees h (after_refused_write w s r)) (λ is. (is, stays)) (λ is. (is, stays)) (λ is. (is, stays)) (λ is. (is, stays)) r
    (allows_barred h w s r agrees is))

-- the session may write
pub writer : (h : Heap) (w : World) (s : ℕ) (e : SeenSession) (at : h.session s ≡ Some e) (agrees : HeapAgrees h w) → e.failed ≡ false → e.cursor ≡ None → IsWriter w s (agrees.opened s e at).0
writer h w s e at agrees sound bare = let open_ = agrees.opened s e at in
    record { ready = record { there = open_.1; sound = sym open_.2.same_failed ∙ sound }; bare = open_.2.cursor.closed bare }

-- the row that a write puts has too large a body
abbrev pub IsTooLarge : WriteStep → Type 0
IsTooLarge (inserts row) = 1024 < length row.body
IsTooLarge (updates row) = 1024 < length row.body
IsTooLarge (deletes k) = ⊥

pub Follows-too_large : (h : Heap) (s : ℕ) (e : SeenSession) (write : WriteStep) → h.session s ≡ Some e → e.failed ≡ false → e.cursor ≡ None → IsTooLarge write → HeapFollows h (step_of s write) (reply.Refused refusal.TooLarge) h
Follows-too_large h s e write at sound bare large = Follows-refused h h s refusal.TooLarge write (λ w agrees. (allows w agrees write large, Agrees-stepped h w s agrees))
  where
    allows : (w : World) → HeapAgrees h w → (write : WriteStep) → IsTooLarge write → AllowsHindered w s refusal.TooLarge write
    allows w agrees (inserts row) large = ((agrees.opened s e at).0, writer h w s e at agrees sound bare, large)
    allows w agrees (updates row) large = ((agrees.opened s e at).0, writer h w s e at agrees sound bare, large)
    allows w agrees (deletes k) large = absurd large

pub Follows-already_there : (h : Heap) (s : ℕ) (e : SeenSession) (row : RowToWrite) (found : Row) → BeginsWrite h s e row.key (Some found) → FitsRow row → HeapFollows h (step.Insert s row) (reply.Refused refusal.AlreadyThere) h
Follows-already_there h s e row found b fits w agrees =
    (((agrees.opened s e b.at).0, writer h w s e b.at agrees b.sound b.bare, fits, subst (λ o. IsSome o) (found_is_view h w s e row.key (Some found) b.at agrees b.finds) refl), Agrees-stepped h w s agrees)

-- the write asks for a row of its key, and the row that it puts fits
abbrev pub NeedsRow : WriteStep → Type 0
NeedsRow (inserts row) = ⊥
NeedsRow (updates row) = FitsRow row
NeedsRow (deletes k) = Unit {0}

pub Follows-not_there : (h : Heap) (s : ℕ) (e : SeenSession) (write : WriteStep) → BeginsWrite h s e (key_of write) None → NeedsRow write → HeapFollows h (step_of s write) (reply.Refused refusal.NotThere) h
Follows-not_there h s e write b needs = Follows-refused h h s refusal.NotThere write (λ w agrees.
    (allows w agrees write (writer h w s e b.at agrees b.sound b.bare) (sym (found_is_view h w s e (key_of write) None b.at agrees b.finds)) needs, Agrees-stepped h w s agrees))
  where
    allows : (w : World) (agrees : HeapAgrees h w) (write : WriteStep) → IsWriter w s (agrees.opened s e b.at).0 → view w.history (agrees.opened s e b.at).0 (key_of write) ≡ None
        → NeedsRow write → AllowsHindered w s refusal.NotThere write
    allows w agrees (inserts row) may none needs = absurd needs
    allows w agrees (updates row) may none needs = ((agrees.opened s e b.at).0, may, needs, none)
    allows w agrees (deletes k) may none needs = ((agrees.opened s e b.at).0, may, none)

-- What the session reads of the key is what the write asks for.

pub suits : (h : Heap) (w : World) (s : ℕ) (e : SeenSession) (write : WriteStep) (found : Option Row) (b : BeginsWrite h s e (key_of write) found) (agrees : HeapAgrees h w) → Asks write found
    → Asks write (view w.history (agrees.opened s e b.at).0 (key_of write))
suits h w s e write found b agrees asks = subst (λ o. Asks write o) (found_is_view h w s e (key_of write) found b.at agrees b.finds) asks

-- late exactly where the model is
pub late_for : (h : Heap) (w : World) (s : ℕ) (e : SeenSession) (k : ℕ) (at : h.session s ≡ Some e) (agrees : HeapAgrees h w) → IsLateFor h e k → IsLate w.history (start_now w.history (agrees.opened s e at).0) k
late_for h w s e k at agrees some = subst (λ k. IsLate w.history (start_now w.history (agrees.opened s e at).0) k) some.3 ((agrees.opened s e at).2.traces.missed_late some.0 some.1 some.2 some.4)

pub in_time : (h : Heap) (w : World) (s : ℕ) (e : SeenSession) (k : ℕ) (at : h.session s ≡ Some e) (agrees : HeapAgrees h w) → ¬ IsLateFor h e k → ¬ IsLate w.history (start_now w.history (agrees.opened s e at).0) k
in_time h w s e k at agrees none late = none ((agrees.opened s e at).2.traces.late_missed k late)

-- a session fails, as the model's does
pub Agrees-fails : (h : Heap) (w : World) (s : ℕ) (e : SeenSession) (session' : ℕ → Option SeenSession) → OnlyIs h.session session' s (Some (record e { failed = true })) → h.session s ≡ Some e
    → HeapAgrees h w → HeapAgrees (record h { session = session' }) (change w s as_failed)
Agrees-fails h w s e session' only at agrees = let open_ = agrees.opened s e at in
    subst (λ o. HeapAgrees (record h { session = session' }) (put w s (option_map as_failed o))) (sym open_.1)
    (Agrees-fail h w s e open_.0 session' only at open_.1 open_.2 agrees)

pub Follows-conflict : (h : Heap) (s : ℕ) (e : SeenSession) (write : WriteStep) (found : Option Row) (session' : ℕ → Option SeenSession) → BeginsWrite h s e (key_of write) found → Asks write found → IsLateFor h e (key_of write)
    → OnlyIs h.session session' s (Some (record e { failed = true })) → HeapFollows h (step_of s write) (reply.Refused refusal.Conflict) (record h { session = session' })
Follows-conflict h s e write found session' b asks late only = Follows-refused h (record h { session = session' }) s refusal.Conflict write (λ w agrees. (
  (
    (agrees.opened s e b.at).0,
    writer h w s e b.at agrees b.sound b.bare,
    suits h w s e write found b agrees asks,
    late_for h w s e (key_of write) b.at agrees late,
  ),
  Agrees-fails h w s e session' only b.at agrees,
))

-- whoever has the id holds the key
pub holder_holds : (h : Heap) (w : World) (s o : ℕ) (e f : SeenSession) (k x : ℕ) → h.session s ≡ Some e → h.session o ≡ Some f → Contains f.own x → IsHeldBy h e k x → HeapAgrees h w → (o ≢ s) × Holds w o k
holder_holds h w s o e f k x at bt owns some agrees = let open_ = agrees.opened o f bt in (
  λ same. some.4.foreign (subst (λ (g : SeenSession). Contains g.own x) (same_Some f e (sym bt ∙ (ap h.session same ∙ at))) owns),
  (open_.0, open_.1, subst (λ k. IsSome (own_write open_.0 k)) some.3 ((own_traced open_.2).there_written some.0 some.1 some.2 (x, some.4.touch, owns))),
)

pub Follows-busy : (h : Heap) (s o : ℕ) (e f : SeenSession) (x : ℕ) (write : WriteStep) (found : Option Row) → BeginsWrite h s e (key_of write) found → Asks write found → ¬ IsLateFor h e (key_of write)
    → IsHeldBy h e (key_of write) x → h.session o ≡ Some f → Contains f.own x → HeapFollows h (step_of s write) (reply.Refused (refusal.Busy o)) h
Follows-busy h s o e f x write found b asks timely held bt owns = Follows-refused h h s (refusal.Busy o) write (λ w agrees.
    let holds = holder_holds h w s o e f (key_of write) x b.at bt owns held agrees in (
      (
        (agrees.opened s e b.at).0,
        suits h w s e write found b agrees asks,
        record {
          writer = writer h w s e b.at agrees b.sound b.bare;
          in_time = in_time h w s e (key_of write) b.at agrees timely;
          other = holds.0;
          held = holds.1;
        },
      ),
      Agrees-stepped h w s agrees,
    ))

-- Nothing keeps the session from the key.

unheld_by : (h : Heap) (w : World) (s : ℕ) (e : SeenSession) (k : ℕ) (found : Option Row) → Free h s e k found → HeapAgrees h w → (o : ℕ) → o ≢ s → ¬ Holds w o k
unheld_by h w s e k found free agrees o ne holds = of (h.session o) refl
  where
    of : (f : Option SeenSession) → h.session o ≡ f → ⊥
    of None bt = none-some holds.0 (sym (agrees.idle o bt) ∙ holds.1)
    of (Some f) bt =
        let open_ = agrees.opened o f bt in
        let same : holds.0 ≡ open_.0 = same_Some holds.0 open_.0 (sym holds.1 ∙ open_.1) in
        let some = (own_traced open_.2).written_there k (subst (λ (m : OpenSession). IsSome (own_write m k)) same holds.2) in
        free.unheld some.4.0 (
          some.0,
          some.1,
          some.2,
          some.3,
          record {
            touch = some.4.1;
            active = open_.2.own_active some.4.0 some.4.2;
            foreign = λ mine. ne (agrees.apart o s f e some.4.0 bt free.begins.at some.4.2 mine);
          },
        )

pub may_write : (h : Heap) (w : World) (s : ℕ) (e : SeenSession) (k : ℕ) (found : Option Row) (free : Free h s e k found) (agrees : HeapAgrees h w) → MayWrite w s k (agrees.opened s e free.begins.at).0
may_write h w s e k found free agrees = record {
  writer = writer h w s e free.begins.at agrees free.begins.sound free.begins.bare;
  in_time = in_time h w s e k free.begins.at agrees free.timely;
  unheld = unheld_by h w s e k found free agrees;
}

pub allows_write : (h : Heap) (w : World) (s : ℕ) (e : SeenSession) (write : WriteStep) (found : Option Row) → Free h s e (key_of write) found → Asks write found → HeapAgrees h w → AllowsWrite w s write
allows_write h w s e write found free asks agrees =
    ((agrees.opened s e free.begins.at).0, suits h w s e write found free.begins agrees asks, may_write h w s e (key_of write) found free agrees)

-- the write puts a row into the table
abbrev pub IsPut : WriteStep → Type 0
IsPut (deletes k) = ⊥
IsPut write = Unit {0}

-- a refusal after which the engine is as it was, or has cleaned

pub Follows-needs_freeze : (h : Heap) (s : ℕ) (e : SeenSession) (write : WriteStep) (found : Option Row) → Free h s e (key_of write) found → Asks write found → HeapFollows h (step_of s write) (reply.Refused refusal.NeedsFreeze) h
Follows-needs_freeze h s e write found free asks =
    Follows-refused h h s refusal.NeedsFreeze write (λ w agrees. (allows_write h w s e write found free asks agrees, Agrees-stepped h w s agrees))

pub Follows-no_room_after : (h h' : Heap) (s : ℕ) (e : SeenSession) (write : WriteStep) (found : Option Row) → Free h s e (key_of write) found → Asks write found → IsPut write
    → ((w : World) → HeapAgrees h w → HeapAgrees h' w) → HeapFollows h (step_of s write) (reply.Refused refusal.NoRoom) h'
Follows-no_room_after h h' s e write found free asks puts still = Follows-refused h h' s refusal.NoRoom write (λ w agrees.
    (lacks_room w write puts (allows_write h w s e write found free asks agrees), Agrees-stepped h' w s (still w agrees)))
  where
    lacks_room : (w : World) (write : WriteStep) → IsPut write → AllowsWrite w s write → AllowsHindered w s refusal.NoRoom write
    lacks_room w (inserts row) puts may = may
    lacks_room w (updates row) puts may = may
    lacks_room w (deletes k) puts may = absurd puts

pub Follows-no_room : (h : Heap) (s : ℕ) (e : SeenSession) (write : WriteStep) (found : Option Row) → Free h s e (key_of write) found → Asks write found → IsPut write → HeapFollows h (step_of s write) (reply.Refused refusal.NoRoom) h
Follows-no_room h s e write found free asks puts = Follows-no_room_after h h s e write found free asks puts (λ w agrees. agrees)

pub Follows-no_memory_after : (h h' : Heap) (s : ℕ) (e : SeenSession) (write : WriteStep) (found : Option Row) → Free h s e (key_of write) found → Asks write found
    → ((w : World) → HeapAgrees h w → HeapAgrees h' w) → HeapFollows h (step_of s write) (reply.Refused refusal.NoMemory) h'
Follows-no_memory_after h h' s e write found free asks still =
    Follows-refused h h' s refusal.NoMemory write (λ w agrees. (allows_write h w s e write found free asks agrees, Agrees-stepped h' w s (still w agrees)))

pub Follows-no_memory : (h : Heap) (s : ℕ) (e : SeenSession) (write : WriteStep) (found : Option Row) → Free h s e (key_of write) found → Asks write found → HeapFollows h (step_of s write) (reply.Refused refusal.NoMemory) h
Follows-no_memory h s e write found free asks = Follows-no_memory_after h h s e write found free asks (λ w agrees. agrees)
