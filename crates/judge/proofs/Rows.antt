-- Rows that are handed out or shown.
use Rattle.std.proofs.Common.{◌≡◌, ℕ, zero, ◌<◌, List, [], ◌∷◌, length, take, max, Some, None, Bool, true, false, refl, sym, ap, ◌∙◌, subst, arith, inl, inr}
use Rattle.std.specs.Prelude.{IsTrue, ◌↔◌}
use Rattle.std.proofs.lemmas.Bool.{cases_lt}
use Rattle.std.proofs.lemmas.Option.{none-some, same_Some, slice_get_within}
use Rattle.tuple_header.specs.declared.version.Row.{Row}
use Rattle.history.specs.World.{World, OpenSession, Cursor, view, IsReady, world_sessions}
use Rattle.history.specs.Cursors.{AreOf, ArePart, AreNext, IsOver, HandsOutPart, HandsOutKeys, keys_of}
use Rattle.history.specs.Laws.{HasFew}
use Rattle.history.proofs.FewLemmas.{few-run}
use Rattle.calls.specs.declared.step.Step.TheVariants as step
use Rattle.calls.specs.declared.reply.Reply.{Reply}
use Rattle.calls.specs.declared.reply.Reply.TheVariants as reply
use Rattle.calls.specs.declared.reply.Refusal.{Refusal}
use Rattle.calls.specs.declared.reply.Refusal.TheVariants as refusal
use Rattle.calls.specs.Bars.{BarsReady, BarsWithCursor}
use Rattle.calls.proofs.BarsLemmas.{of_ready, of_with_cursor}
use Rattle.refinement.specs.Allowed.{AllowsReply}
use Rattle.plain_cursor.specs.declared.order.PlainOrder.{PlainOrder}
use Rattle.plain_cursor.specs.declared.order.PlainOrder.TheVariants as order
use Rattle.plain_cursor.specs.Order.{KeptCursor, row_of_key, index_of, IsInOrder}
use Rattle.plain_cursor.specs.Hands.{plain_order_of, cursor_of}
use Rattle.plain_cursor.proofs.Ordered.{next_rows, row_in-head}
use Rattle.one_answer.proofs.Fronts.{one_next}
use Rattle.judge.specs.Rulings.{IsReached}
use Rattle.judge.specs.Handing.{MayHand, MayShow, HaveTheirOwnKeys, StandsBefore}
use Rattle.judge.proofs.DueLemmas.{IsDueAt}

-- Of an index the next rows are the first that are left.

pub next_iff : (index n : ℕ) (rest rows : List Row) (b : Bool) → IsInOrder index rest → (IsTrue b ↔ ((0 < length rest) × (rows ≡ take (max 1 n) rest))) → (IsTrue b ↔ AreNext index n (row_of_key rest) rows)
next_iff index n rest rows b order says = (
  λ yes_. (let is = says.0 yes_ in subst (AreNext index n (row_of_key rest)) (sym is.1) (next_rows index n (max 1 n) rest order is.0 refl)),
  λ next. says.1 (
      let some : 0 < length rest = some_left rest rows next.part in
      (some, one_next index n (row_of_key rest) rows (take (max 1 n) rest) next (next_rows index n (max 1 n) rest order some refl))
      ),
)
  where
    some_left : (rest rows : List Row) → ArePart (row_of_key rest) rows → 0 < length rest
    some_left [] [] part = absurd (let some : 0 < length {A = Row} [] = part.some in omega arith)
    some_left [] (x ∷ rows) part = absurd (none-some x (part.of.theirs zero x refl))
    some_left (r ∷ rest) rows part = omega arith

pub next_keys_iff : (n : ℕ) (rest : List Row) (keys : List ℕ) (b : Bool) → IsInOrder 0 rest → (IsTrue b ↔ ((0 < length rest) × (keys ≡ keys_of (take (max 1 n) rest))))
    → (IsTrue b ↔ ((rows : List Row) × AreNext 0 n (row_of_key rest) rows × (keys ≡ keys_of rows)))
next_keys_iff n rest keys b order says = (
  λ yes_. (let is = says.0 yes_ in (take (max 1 n) rest, next_rows 0 n (max 1 n) rest order is.0 refl, is.1)),
  λ next. says.1 (
      let some : 0 < length rest = some_left rest next.0 next.1.part in
      (some, next.2 ∙ ap keys_of (one_next 0 n (row_of_key rest) next.0 (take (max 1 n) rest) next.1 (next_rows 0 n (max 1 n) rest order some refl)))
      ),
)
  where
    some_left : (rest rows : List Row) → ArePart (row_of_key rest) rows → 0 < length rest
    some_left [] [] part = absurd (let some : 0 < length {A = Row} [] = part.some in omega arith)
    some_left [] (x ∷ rows) part = absurd (none-some x (part.of.theirs zero x refl))
    some_left (r ∷ rest) rows part = omega arith

pub over_iff : (rest : List Row) (b : Bool) → (IsTrue b ↔ (rest ≡ [])) → (IsTrue b ↔ IsOver (row_of_key rest))
over_iff rest b says = (λ yes_ key. ap (λ l. row_of_key l key) (says.0 yes_), λ over. says.1 (by rest over))
  where
    by : (rest : List Row) → IsOver (row_of_key rest) → rest ≡ []
    by [] over = refl
    by (r ∷ rest) over = absurd (none-some r (sym (over r.key) ∙ row_in-head r rest r.key refl))

-- None stands before another of its key.

pub apart_of : (rows : List Row) → ((i : ℕ) → i < length rows → ¬ StandsBefore rows i) → HaveTheirOwnKeys rows
apart_of rows none i j a b at bt same = elim (cases_lt i j) [
  | inl lt ↦ absurd (none j (slice_get_within rows j b bt) (i, a, b, lt, at, bt, same))
  | inr le ↦ (elim (cases_lt j i) [
    | inl lt ↦ absurd (none i (slice_get_within rows i a at) (j, b, a, lt, bt, at, sym same))
    | inr ge ↦ omega arith
  ])
]

-- A session that may go on is not barred.

reached_few : (w : World) → IsReached w → HasFew w
reached_few w reached = few-run reached.1 (λ s far. refl)

not_ready : (w : World) (s : ℕ) (m : OpenSession) (r : Refusal) → HasFew w → IsReady w s m → BarsReady (world_sessions w) s r → ⊥
not_ready w s m r few ready is = of_ready (world_sessions w) s (λ r. ⊥) (λ far. none-some m (sym (few s far) ∙ ready.there)) (λ idle. none-some m (sym idle.1 ∙ ready.there))
    (λ failed. let same : failed.0 ≡ m = same_Some failed.0 m (sym failed.1 ∙ ready.there) in
    let was : m.failed ≡ true = subst (λ (m : OpenSession). m.failed ≡ true) same failed.2 in let never : true ≡ false = sym was ∙ ready.sound in cc) r is

not_with_cursor : (w : World) (s : ℕ) (m : OpenSession) (c : Cursor) (r : Refusal) → HasFew w → IsReady w s m → m.cursor ≡ Some c → BarsWithCursor (world_sessions w) s r → ⊥
not_with_cursor w s m c r few ready at is = of_with_cursor (world_sessions w) s (λ r. ⊥) (λ far. none-some m (sym (few s far) ∙ ready.there)) (λ idle. none-some m (sym idle.1 ∙ ready.there))
    (λ failed. not_ready w s m refusal.Failed few ready failed)
    (λ bare. let same : bare.0 ≡ m = same_Some bare.0 m (sym bare.1 ∙ ready.there) in
    none-some c (sym (subst (λ (m : OpenSession). m.cursor ≡ None) same bare.3) ∙ at)) r is

-- Next.

same_cursor : (w : World) (s : ℕ) (m n : OpenSession) (c d : Cursor) → IsReady w s m → IsReady w s n → m.cursor ≡ Some c → n.cursor ≡ Some d → d ≡ c
same_cursor w s m n c d ready ready' at at' =
    same_Some d c (sym at' ∙ (ap (λ (m : OpenSession). m.cursor) (same_Some n m (sym ready'.there ∙ ready.there)) ∙ at))

handed : (w : World) (s n : ℕ) (m : OpenSession) (c : Cursor) (a : Reply) → HasFew w → IsReady w s m → m.cursor ≡ Some c → AllowsReply w (step.Next s n) a → MayHand c n a
handed w s n m c (reply.Rows r) few ready at is = subst (λ (c : Cursor). HandsOutPart c.order n c.rest r.items) (same_cursor w s m is.0 c is.1 ready is.2 at is.3) is.4
handed w s n m c (reply.Keys k) few ready at is = subst (λ (c : Cursor). HandsOutKeys c.order n c.rest k.items) (same_cursor w s m is.0 c is.1 ready is.2 at is.3) is.4
handed w s n m c reply.End few ready at is = subst (λ (c : Cursor). IsOver c.rest) (same_cursor w s m is.0 c is.1 ready is.2 at is.3) is.4
handed w s n m c (reply.Refused refusal.NoMemory) few ready at is = subst (λ (c : Cursor). ¬ IsOver c.rest) (same_cursor w s m is.0 c is.1 ready is.2 at is.3) is.4
handed w s n m c (reply.Refused (refusal.Busy o)) few ready at is = not_with_cursor w s m c (refusal.Busy o) few ready at is.0
handed w s n m c (reply.Refused refusal.Deadlock) few ready at is = absurd is.3
handed w s n m c (reply.Refused r) few ready at is = not_with_cursor w s m c r few ready at is
handed w s n m c _ few ready at is = absurd is

pub hands : (w : World) (s n : ℕ) (m : OpenSession) (c : Cursor) (a : Reply) → IsReady w s m → m.cursor ≡ Some c → MayHand c n a → AllowsReply w (step.Next s n) a
hands w s n m c (reply.Rows r) ready at is = (m, c, ready, at, is)
hands w s n m c (reply.Keys k) ready at is = (m, c, ready, at, is)
hands w s n m c reply.End ready at is = (m, c, ready, at, is)
hands w s n m c (reply.Refused refusal.NoMemory) ready at is = (m, c, ready, at, is)
hands w s n m c _ ready at is = absurd is

pub hands_iff : (w : World) (s n : ℕ) (c : Cursor) (a : Reply) (b : Bool) → IsReached w → (m : OpenSession) × IsReady w s m × (m.cursor ≡ Some c) → (IsTrue b ↔ MayHand c n a) → (IsTrue b ↔ AllowsReply w (step.Next s n) a)
hands_iff w s n c a b reached may says = (λ yes_. hands w s n may.0 c a may.1 may.2 (says.0 yes_), λ is. says.1 (handed w s n may.0 c a (reached_few w reached) may.1 may.2 is))

pub next_refused : (w : World) (s n : ℕ) (r : Refusal) → BarsWithCursor (world_sessions w) s r → IsDueAt w (step.Next s n) r
next_refused w s n r is = of_with_cursor (world_sessions w) s (IsDueAt w (step.Next s n)) (λ is. (is, λ x. x)) (λ is. (is, λ x. x)) (λ is. (is, λ x. x)) (λ is. (is, λ x. x)) r is

-- A page.

shown : (w : World) (s p : ℕ) (m : OpenSession) (a : Reply) → HasFew w → IsReady w s m → AllowsReply w (step.TakePage s p) a → MayShow (view w.history m) a
shown w s p m (reply.Rows r) few ready is = subst (λ (m : OpenSession). AreOf (view w.history m) r.items) (same_Some is.0 m (sym is.1.there ∙ ready.there)) is.2
shown w s p m (reply.Refused refusal.NoSuchPage) few ready is = tt
shown w s p m (reply.Refused refusal.NoMemory) few ready is = tt
shown w s p m (reply.Refused (refusal.Busy o)) few ready is = not_ready w s m (refusal.Busy o) few ready is.0
shown w s p m (reply.Refused refusal.Deadlock) few ready is = absurd is.3
shown w s p m (reply.Refused r) few ready is = not_ready w s m r few ready is
shown w s p m _ few ready is = absurd is

shows : (w : World) (s p : ℕ) (m : OpenSession) (a : Reply) → IsReady w s m → MayShow (view w.history m) a → AllowsReply w (step.TakePage s p) a
shows w s p m (reply.Rows r) ready is = (m, ready, is)
shows w s p m (reply.Refused refusal.NoSuchPage) ready is = (m, ready)
shows w s p m (reply.Refused refusal.NoMemory) ready is = (m, ready)
shows w s p m _ ready is = absurd is

pub shows_iff : (w : World) (s p : ℕ) (m : OpenSession) (a : Reply) (b : Bool) → IsReached w → IsReady w s m → (IsTrue b ↔ MayShow (view w.history m) a) → (IsTrue b ↔ AllowsReply w (step.TakePage s p) a)
shows_iff w s p m a b reached ready says = (λ yes_. shows w s p m a ready (says.0 yes_), λ is. says.1 (shown w s p m a (reached_few w reached) ready is))

pub page_refused : (w : World) (s p : ℕ) (r : Refusal) → BarsReady (world_sessions w) s r → IsDueAt w (step.TakePage s p) r
page_refused w s p r is = of_ready (world_sessions w) s (IsDueAt w (step.TakePage s p)) (λ is. (is, λ x. x)) (λ is. (is, λ x. x)) (λ is. (is, λ x. x)) r is

pub never_barred : (w : World) (s : ℕ) (m : OpenSession) (r : Refusal) → IsReached w → IsReady w s m → BarsReady (world_sessions w) s r → ⊥
never_barred w s m r reached ready is = not_ready w s m r (reached_few w reached) ready is

-- What a cursor of one kind hands out.

pub rows_iff : (cursor : KeptCursor) (index n : ℕ) (rest rows : List Row) (b : Bool) → cursor.order ≡ order.Index index → rest ≡ cursor.rest → IsInOrder (index_of cursor.order) rest
    → (IsTrue b ↔ ((0 < length rest) × (rows ≡ take (max 1 n) rest))) → (IsTrue b ↔ HandsOutPart (cursor_of cursor).order n (cursor_of cursor).rest rows)
rows_iff cursor index n rest rows b by same in_order says =
    subst (λ (o : PlainOrder). IsTrue b ↔ HandsOutPart (plain_order_of o) n (row_of_key cursor.rest) rows) (sym by)
    (subst (λ (l : List Row). IsTrue b ↔ AreNext index n (row_of_key l) rows) same
    (next_iff index n rest rows b (subst (λ (o : PlainOrder). IsInOrder (index_of o) rest) by in_order) says))

pub keys_iff : (cursor : KeptCursor) (n : ℕ) (rest : List Row) (keys : List ℕ) (b : Bool) → cursor.order ≡ order.Keys → rest ≡ cursor.rest → IsInOrder (index_of cursor.order) rest
    → (IsTrue b ↔ ((0 < length rest) × (keys ≡ keys_of (take (max 1 n) rest)))) → (IsTrue b ↔ HandsOutKeys (cursor_of cursor).order n (cursor_of cursor).rest keys)
keys_iff cursor n rest keys b by same in_order says =
    subst (λ (o : PlainOrder). IsTrue b ↔ HandsOutKeys (plain_order_of o) n (row_of_key cursor.rest) keys) (sym by)
    (subst (λ (l : List Row). IsTrue b ↔ ((rows : List Row) × AreNext 0 n (row_of_key l) rows × (keys ≡ keys_of rows))) same
    (next_keys_iff n rest keys b (subst (λ (o : PlainOrder). IsInOrder (index_of o) rest) by in_order) says))
