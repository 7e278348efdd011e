-- What a cursor hands out, and the steps that clean and name more than a number.
use Rattle.std.proofs.Common.{◌≡◌, ℕ, zero, ◌<◌, List, [], ◌∷◌, length, Option, Some, true, false, refl, sym, ap, ◌∙◌, subst, arith, ◌⊎◌, inl, inr}
use Rattle.std.specs.Prelude.{IsSome}
use Rattle.std.specs.Global.{Vec}
use Rattle.std.proofs.lemmas.Option.{none-some, same_Some}
use Rattle.tuple_header.specs.declared.version.Row.{Row}
use Rattle.history.specs.World.{World, OpenSession, Cursor, Order, by_index, by_heap, by_keys}
use Rattle.history.specs.Cursors.{IsOver, ArePart, HandsOutPart, HandsOutKeys, keys_of}
use Rattle.history.specs.Laws.{HasFew}
use Rattle.calls.specs.declared.step.Step.TheVariants as step
use Rattle.calls.specs.declared.vacuum.Mode.{Mode}
use Rattle.calls.specs.Words.{PlanToApply}
use Rattle.calls.specs.declared.reply.Reply.{Reply}
use Rattle.calls.specs.declared.reply.Reply.TheVariants as reply
use Rattle.calls.specs.declared.reply.Refusal.TheVariants as refusal
use Rattle.refinement.specs.Allowed.{Allows, AllowsReply}
use Rattle.one_answer.specs.OneAnswer.{TellTheSame, IsLeftOpen}
use Rattle.one_answer.proofs.Fronts.{one_next}
use Rattle.one_answer.proofs.Tests.{IsTaken, Agrees, same_of, left_taken, Or, agree-or, Last, Only, agree-only, WithCursor, agree-with_cursor, barred_with_cursor, past_with_cursor}
use Rattle.one_answer.proofs.Others.{by_tests, done, not_both_runs}

rows_once : (order : Order) (n : ℕ) (rest : ℕ → Option Row) (r q : List Row) → HandsOutPart order n rest r → HandsOutPart order n rest q → (r ≡ q) ⊎ (order ≡ by_heap)
rows_once (by_index index) n rest r q hands hands' = inl (one_next index n rest r q hands hands')
rows_once by_heap n rest r q hands hands' = inr refl
rows_once by_keys n rest r q hands hands' = absurd hands

keys_once : (order : Order) (n : ℕ) (rest : ℕ → Option Row) (k l : List ℕ) → HandsOutKeys order n rest k → HandsOutKeys order n rest l → k ≡ l
keys_once (by_index index) n rest k l hands hands' = absurd hands
keys_once by_heap n rest k l hands hands' = absurd hands
keys_once by_keys n rest k l hands hands' = hands.2 ∙ (ap keys_of (one_next 0 n rest hands.0 hands'.0 hands.1 hands'.1) ∙ sym hands'.2)

rows_or_keys : (order : Order) (n : ℕ) (rest : ℕ → Option Row) (r : List Row) (k : List ℕ) → HandsOutPart order n rest r → HandsOutKeys order n rest k → ⊥
rows_or_keys (by_index index) n rest r k hands hands' = hands'
rows_or_keys by_heap n rest r k hands hands' = hands'
rows_or_keys by_keys n rest r k hands hands' = hands

part_left : (rest : ℕ → Option Row) (rows : List Row) → ArePart rest rows → ¬ IsOver rest
part_left rest [] part over = let some : 0 < length {A = Row} [] = part.some in omega arith
part_left rest (x ∷ rows) part over = none-some x (sym (over x.key) ∙ part.of.theirs zero x refl)

rows_left : (order : Order) (n : ℕ) (rest : ℕ → Option Row) (r : List Row) → HandsOutPart order n rest r → ¬ IsOver rest
rows_left (by_index index) n rest r hands = part_left rest r hands.part
rows_left by_heap n rest r hands = part_left rest r hands
rows_left by_keys n rest r hands = absurd hands

keys_left : (order : Order) (n : ℕ) (rest : ℕ → Option Row) (k : List ℕ) → HandsOutKeys order n rest k → ¬ IsOver rest
keys_left (by_index index) n rest k hands = absurd hands
keys_left by_heap n rest k hands = absurd hands
keys_left by_keys n rest k hands = part_left rest hands.0 hands.1.part

data Hands (w : World) (s n : ℕ) (c : Cursor) (a : Reply) : Type 0 where
  over : IsOver c.rest → a ≡ reply.End → Hands w s n c a
  rows : (rows : Vec Row) → HandsOutPart c.order n c.rest rows.items → a ≡ reply.Rows rows → Hands w s n c a
  keys : (keys : Vec ℕ) → HandsOutKeys c.order n c.rest keys.items → a ≡ reply.Keys keys → Hands w s n c a
  left : ¬ IsOver c.rest → IsLeftOpen w (step.Next s n) a → Hands w s n c a

same_rows : (a b : Reply) (r q : Vec Row) → a ≡ reply.Rows r → b ≡ reply.Rows q → r.items ≡ q.items → TellTheSame a b
same_rows a b r q is is' same = subst (λ (b : Reply). TellTheSame a b) (sym is') (subst (λ (a : Reply). TellTheSame a (reply.Rows q)) (sym is) same)

same_keys : (a b : Reply) (k l : Vec ℕ) → a ≡ reply.Keys k → b ≡ reply.Keys l → k.items ≡ l.items → TellTheSame a b
same_keys a b k l is is' same = subst (λ (b : Reply). TellTheSame a b) (sym is') (subst (λ (a : Reply). TellTheSame a (reply.Keys l)) (sym is) same)

taken_rows : (a : Reply) (r : Vec Row) → a ≡ reply.Rows r → IsTaken a
taken_rows a r is = subst IsTaken (sym is) tt

taken_keys : (a : Reply) (k : Vec ℕ) → a ≡ reply.Keys k → IsTaken a
taken_keys a k is = subst IsTaken (sym is) tt

agree-hands : (w : World) (s n : ℕ) (m : OpenSession) (c : Cursor) → w.session s ≡ Some m → m.cursor ≡ Some c → Agrees w (step.Next s n) (Hands w s n c)
agree-hands w s n m c at has a b (over all is) (over all' is') = inl (same_of a b (is ∙ sym is'))
agree-hands w s n m c at has a b (over all is) (rows r hands is') = absurd (rows_left c.order n c.rest r.items hands all)
agree-hands w s n m c at has a b (over all is) (keys k hands is') = absurd (keys_left c.order n c.rest k.items hands all)
agree-hands w s n m c at has a b (over all is) (left some open_) = absurd (some all)
agree-hands w s n m c at has a b (rows r hands is) (over all is') = absurd (rows_left c.order n c.rest r.items hands all)
agree-hands w s n m c at has a b (rows r hands is) (rows q hands' is') = elim (rows_once c.order n c.rest r.items q.items hands hands') [
  | inl same ↦ inl (same_rows a b r q is is' same)
  | inr heap ↦ inr (taken_rows a r is, taken_rows b q is', inl (subst (λ (a : Reply). IsLeftOpen w (step.Next s n) a) (sym is) (m, c, at, has, heap)))
]
agree-hands w s n m c at has a b (rows r hands is) (keys k hands' is') = absurd (rows_or_keys c.order n c.rest r.items k.items hands hands')
agree-hands w s n m c at has a b (rows r hands is) (left some open_) = inr (taken_rows a r is, left_taken w (step.Next s n) b open_, inr open_)
agree-hands w s n m c at has a b (keys k hands is) (over all is') = absurd (keys_left c.order n c.rest k.items hands all)
agree-hands w s n m c at has a b (keys k hands is) (rows r hands' is') = absurd (rows_or_keys c.order n c.rest r.items k.items hands' hands)
agree-hands w s n m c at has a b (keys k hands is) (keys l hands' is') = inl (same_keys a b k l is is' (keys_once c.order n c.rest k.items l.items hands hands'))
agree-hands w s n m c at has a b (keys k hands is) (left some open_) = inr (taken_keys a k is, left_taken w (step.Next s n) b open_, inr open_)
agree-hands w s n m c at has a b (left some open_) (over all is) = absurd (some all)
agree-hands w s n m c at has a b (left some open_) (rows r hands is) = inr (left_taken w (step.Next s n) a open_, taken_rows b r is, inl open_)
agree-hands w s n m c at has a b (left some open_) (keys k hands is) = inr (left_taken w (step.Next s n) a open_, taken_keys b k is, inl open_)
agree-hands w s n m c at has a b (left some open_) (left some' open_') = inr (left_taken w (step.Next s n) a open_, left_taken w (step.Next s n) b open_', inl open_)

pub agree-next : (w : World) (s n : ℕ) → HasFew w → Agrees w (step.Next s n) (AllowsReply w (step.Next s n))
agree-next w s n few = by_tests w (step.Next s n) (WithCursor w s rest) tt (agree-with_cursor w (step.Next s n) s rest few (λ m at a b x y.
    agree-hands w s n m x.0 at x.1 a b x.2 (subst (λ (c : Cursor). Hands w s n c b) (same_Some y.0 x.0 (sym y.1 ∙ x.1)) y.2))) answers
  where
    rest : OpenSession → Reply → Type 0
    rest m a = (c : Cursor) × (m.cursor ≡ Some c) × Hands w s n c a

    has_one : (m : OpenSession) (c : Cursor) → m.cursor ≡ Some c → IsSome m.cursor
    has_one m c at = subst (λ o. IsSome o) (sym at) refl

    answers : (a : Reply) → Allows w (step.Next s n) a → WithCursor w s rest a
    answers (reply.Rows r) is = past_with_cursor w s rest is.0 (reply.Rows r) is.2 (has_one is.0 is.1 is.3) (is.1, is.3, rows r is.4 refl)
    answers (reply.Keys k) is = past_with_cursor w s rest is.0 (reply.Keys k) is.2 (has_one is.0 is.1 is.3) (is.1, is.3, keys k is.4 refl)
    answers reply.End is = past_with_cursor w s rest is.0 reply.End is.2 (has_one is.0 is.1 is.3) (is.1, is.3, over is.4 refl)
    answers (reply.Refused refusal.NoMemory) is = past_with_cursor w s rest is.0 (reply.Refused refusal.NoMemory) is.2 (has_one is.0 is.1 is.3) (is.1, is.3, left is.4 tt)
    answers (reply.Refused r) is = barred_with_cursor w s rest r is
    answers _ is = absurd is

pub agree-apply_plan : (w : World) (p : ℕ) (plan : PlanToApply) → Agrees w (step.ApplyPlan p plan) (AllowsReply w (step.ApplyPlan p plan))
agree-apply_plan w p plan = by_tests w (step.ApplyPlan p plan) (Last w (step.ApplyPlan p plan) reply.Done) tt (done w (step.ApplyPlan p plan)) answers
  where
    answers : (a : Reply) → Allows w (step.ApplyPlan p plan) a → Last w (step.ApplyPlan p plan) reply.Done a
    answers reply.Done is = inl refl
    answers (reply.Refused refusal.NoSuchPage) is = inr tt
    answers (reply.Refused refusal.Stale) is = inr tt
    answers _ is = absurd is

pub agree-vacuum_begin : (w : World) (mode : Mode) → Agrees w (step.VacuumBegin mode) (AllowsReply w (step.VacuumBegin mode))
agree-vacuum_begin w mode = by_tests w (step.VacuumBegin mode) tests tt
    (agree-or w (step.VacuumBegin mode) (w.has_vacuum ≡ true) (w.has_vacuum ≡ false) (reply.Refused refusal.VacuumRunning) (Only reply.Done) (λ runs idle. not_both_runs w.has_vacuum idle runs)
    (agree-only w (step.VacuumBegin mode) reply.Done)) answers
  where
    tests : Reply → Type 0
    tests a = Or (w.has_vacuum ≡ true) (w.has_vacuum ≡ false) (reply.Refused refusal.VacuumRunning) (Only reply.Done) a

    answers : (a : Reply) → Allows w (step.VacuumBegin mode) a → tests a
    answers reply.Done is = inr (is, refl)
    answers (reply.Refused refusal.VacuumRunning) is = inl (is, refl)
    answers _ is = absurd is
