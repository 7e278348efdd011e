-- A session opens a cursor over keys alone, and is handed keys by it: those of the rows that a cursor along the index by key
-- would hand out.
use Rattle.std.proofs.Common.{◌≡◌, ℕ, ◌<◌, ◌≤◌, max, List, length, Option, Some, None, false, refl, sym, subst}
use Rattle.std.specs.Prelude.{ℤ, ◌<ℤ◌, ◌≤ℤ◌, Vec}
use Rattle.std.specs.declared.alloc.Global.{Global}
use Rattle.xid_circle.specs.declared.Tid.{Tid}
use Rattle.tuple_header.specs.declared.version.Row.{Row}
use Rattle.tuple_header.specs.Version.{Version}
use Rattle.history.specs.World.{World, Cursor, Order, by_index, by_keys, view, world_sessions}
use Rattle.history.specs.Cursors.{rows_within, keys_of, HandsOutKeys}
use Rattle.history.specs.Moves.{change, with_taken}
use Rattle.calls.specs.declared.step.Step.TheVariants as step
use Rattle.calls.specs.declared.reply.Reply.TheVariants as reply
use Rattle.calls.specs.declared.reply.Refusal.{Refusal}
use Rattle.calls.specs.declared.reply.Refusal.TheVariants as refusal
use Rattle.calls.specs.Bars.{BarsFree}
use Rattle.calls.proofs.BarsLemmas.{of_free}
use Rattle.refinement.specs.Allowed.{Allows}
use Rattle.refinement.specs.Heap.{RowPosition, in_index, in_keys, SeenIsolation, SeenSession, Heap, seen_sessions}
use Rattle.refinement.specs.Cursors.{Comes, Remains, WalksOver}
use Rattle.refinement.specs.Agrees.{Shows, HeapAgrees}
use Rattle.refinement.specs.Finds.{HeapFollows}
use Rattle.refinement.proofs.Handing.{past, next_met, rest_met}
use Rattle.refinement.proofs.Steps.{OnlyIs}
use Rattle.refinement.proofs.Follows.{allows_barred, Agrees-stepped}
use Rattle.refinement.proofs.Hindrances.{writer}
use Rattle.refinement.proofs.FollowsCursors.{IsSeenByStatement, reads_by_statement, seen_by, ready, Agrees-cursor, remains_index, OpensBy, with_cursor, opens, model_at, Agrees-taken}

module _ {store : Tid → Option Version} {seen : Version → Type 0} {low high : ℤ} {from : Option RowPosition} where
  -- what comes over keys is what comes along the index by key
  pub comes_along : {row : Row} → Comes store seen (in_keys low high from) row → Comes store seen (in_index 0 low high from) row
  comes_along c = record { place = c.place; version = c.version; here = c.here; shown = c.shown; same_row = c.same_row; to_come = c.to_come }

  pub comes_by_keys : {row : Row} → Comes store seen (in_index 0 low high from) row → Comes store seen (in_keys low high from) row
  comes_by_keys c = record { place = c.place; version = c.version; here = c.here; shown = c.shown; same_row = c.same_row; to_come = c.to_come }

  along : {c : Cursor} → Remains store seen (in_keys low high from) c → Remains store seen (in_index 0 low high from) (record { order = by_index 0; rest = c.rest })
  along h = record {
    order = refl;
    sound = λ row comes. h.sound row (comes_by_keys comes);
    there = λ k row is. let t = h.there k row is in (comes_along t.0, t.1);
  }

  by_its_keys : (rest : ℕ → Option Row) (order : Order) → order ≡ by_keys → Remains store seen (in_index 0 low high from) (record { order = by_index 0; rest = rest })
      → Remains store seen (in_keys low high from) (record { order = order; rest = rest })
  by_its_keys rest order is h = record {
    order = is;
    sound = λ row comes. h.sound row (comes_along comes);
    there = λ k row at. let t = h.there k row at in (comes_by_keys t.0, t.1);
  }

remains_keys : {store : Tid → Option Version} {seen : Version → Type 0} {rows : ℕ → Option Row} (low high : ℤ) → Shows store seen rows
    → Remains store seen (in_keys low high None) (record { order = by_keys; rest = rows_within 0 low high rows })
remains_keys {store} {seen} {rows} low high shows = by_its_keys (rows_within 0 low high rows) by_keys refl (remains_index 0 low high shows)

-- Opening.

pub Follows-open_keys : (h : Heap) (s : ℕ) (e : SeenSession) (low high : ℤ) (isolation : SeenIsolation) (session' : ℕ → Option SeenSession) → OnlyIs h.session session' s (Some (with_cursor isolation (in_keys low high None) e))
    → ((w : World) → HeapAgrees h w → OpensBy h e.isolation isolation) → h.session s ≡ Some e → e.failed ≡ false → e.cursor ≡ None → low ≤ℤ high
    → HeapFollows h (step.OpenKeys s low high) reply.Done (record h { session = session' })
Follows-open_keys h s e low high isolation session' only by at sound bare order w agrees = (
  ((agrees.opened s e at).0, writer h w s e at agrees sound bare, order),
  Agrees-cursor h w s e isolation (Some (in_keys low high None)) (λ m. Some (record { order = by_keys; rest = rows_within 0 low high (view w.history m) })) session' only at
      (λ m mine. opens h w e m (in_keys low high None) (record { order = by_keys; rest = rows_within 0 low high (view w.history m) }) e.isolation isolation m.isolation (by w agrees) mine.isolation refl
      (λ seen shows. remains_keys low high shows) mine) agrees,
)

pub Follows-open_keys_no_memory : (h : Heap) (s : ℕ) (e : SeenSession) (low high : ℤ) → h.session s ≡ Some e → e.failed ≡ false → e.cursor ≡ None → low ≤ℤ high → IsSeenByStatement e.isolation
    → HeapFollows h (step.OpenKeys s low high) (reply.Refused refusal.NoMemory) h
Follows-open_keys_no_memory h s e low high at sound bare order by w agrees =
    (((agrees.opened s e at).0, writer h w s e at agrees sound bare, order, reads_by_statement h w s e at agrees by), Agrees-stepped h w s agrees)

pub Follows-bad_key_bounds : (h : Heap) (s : ℕ) (e : SeenSession) (low high : ℤ) → h.session s ≡ Some e → e.failed ≡ false → e.cursor ≡ None → high <ℤ low
    → HeapFollows h (step.OpenKeys s low high) (reply.Refused refusal.BadBounds) h
Follows-bad_key_bounds h s e low high at sound bare order w agrees = (((agrees.opened s e at).0, writer h w s e at agrees sound bare, order), Agrees-stepped h w s agrees)

pub Follows-barred_open_keys : (h : Heap) (s : ℕ) (low high : ℤ) (r : Refusal) → BarsFree (seen_sessions h) s r → HeapFollows h (step.OpenKeys s low high) (reply.Refused r) h
Follows-barred_open_keys h s low high r is w agrees =
    (of_free (world_sessions w) s (λ r. Allows w (step.OpenKeys s low high) (reply.Refused r)) (λ is. is) (λ is. is) (λ is. is) (λ is. is) r (allows_barred h w s r agrees is), Agrees-stepped h w s agrees)

-- Keys are handed out: those of the rows that a walk in the index by key meets, the first that come.

module _ {store : Tid → Option Version} {seen : Version → Type 0} {low high : ℤ} {from to : Option RowPosition} {rows : List Row} {c : Cursor}
    (h : Remains store seen (in_keys low high from) c) (meets : WalksOver store seen 0 low high from to rows) where
  keys_met : (n : ℕ) (keys : List ℕ) → keys ≡ keys_of rows → 0 < length rows → length rows ≤ max 1 n → (length rows < max 1 n → (row : Row) → ¬ Comes store seen (in_index 0 low high to) row)
      → HandsOutKeys c.order n c.rest keys
  keys_met n keys are some at_most none = subst (λ order. HandsOutKeys order n c.rest keys) (sym h.order) (rows, next_met (along h) meets n some at_most none, are)

  keys_left : Remains store seen (in_keys low high to) (past (keys_of rows) c)
  keys_left = by_its_keys (past (keys_of rows) c).rest c.order h.order (rest_met (along h) meets)

pub Follows-next_of_keys : (h : Heap) (s : ℕ) (e : SeenSession) (low high : ℤ) (from to : Option RowPosition) (n : ℕ) (rows : List Row) (keys : Vec ℕ Global) (session' : ℕ → Option SeenSession)
    → OnlyIs h.session session' s (Some (record e { cursor = Some (in_keys low high to) })) → h.session s ≡ Some e → e.failed ≡ false → e.cursor ≡ Some (in_keys low high from)
    → WalksOver h.version (seen_by h e) 0 low high from to rows → keys.items ≡ keys_of rows → 0 < length rows → length rows ≤ max 1 n
    → (length rows < max 1 n → (row : Row) → ¬ Comes h.version (seen_by h e) (in_index 0 low high to) row)
    → HeapFollows h (step.Next s n) (reply.Keys keys) (record h { session = session' })
Follows-next_of_keys h s e low high from to n rows keys session' only at sound is meets are some at_most none w agrees =
    let model = model_at h w s e (in_keys low high from) at agrees is in (
      ((agrees.opened s e at).0, model.0, ready h w s e at agrees sound, model.1, keys_met model.2 meets n keys.items are some at_most none),
      subst (λ ks. HeapAgrees (record h { session = session' }) (change w s (with_taken ks))) (sym are)
          (Agrees-taken h w s e (in_keys low high from) (in_keys low high to) rows session' only at is (λ c remains. keys_left remains meets) agrees),
    )
