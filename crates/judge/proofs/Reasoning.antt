-- What is due, and which rule a wrong answer breaks.
use Rattle.std.proofs.Common.{◌≡◌, ◌≢◌, ℕ, ◌<◌, List, [], ◌∷◌, length, take, max, Bool, true, false, Some, refl, sym, ap, ◌∙◌, subst, arith}
use Rattle.std.specs.Prelude.{IsTrue, ◌↔◌}
use Rattle.std.specs.Global.{Vec}
use Rattle.tuple_header.specs.declared.version.Row.{Row}
use Rattle.history.specs.Cursors.{IsOver, keys_of}
use Rattle.plain_cursor.specs.declared.order.PlainOrder.{PlainOrder}
use Rattle.plain_cursor.specs.declared.order.PlainOrder.TheVariants as order
use Rattle.plain_cursor.specs.Order.{KeptCursor, row_of_key, index_of, IsInOrder}
use Rattle.plain_cursor.specs.Hands.{plain_order_of, cursor_of}
use Rattle.std.proofs.lemmas.Option.{same_Some}
use Rattle.history.specs.World.{World, OpenSession, Cursor, by_heap, beginning, Holds, LacksIndex, IsReady}
use Rattle.history.specs.Events.{stays}
use Rattle.calls.specs.declared.step.Step.{Step}
use Rattle.calls.specs.declared.step.Step.TheVariants as step
use Rattle.calls.specs.declared.reply.Reply.{Reply}
use Rattle.calls.specs.declared.reply.Reply.TheVariants as reply
use Rattle.calls.specs.declared.reply.Refusal.TheVariants as refusal
use Rattle.refinement.specs.Allowed.{AllowsReply, IsRun, after}
use Rattle.refinement.proofs.Runs.{leads}
use Rattle.one_answer.specs.OneAnswer.{TellTheSame, IsDue, IsLeftOpen}
use Rattle.one_answer.proofs.Ones.{reached_has_one}
use Rattle.judge.specs.declared.due.Due.{Due}
use Rattle.judge.specs.declared.due.Due.TheVariants.{Alone, Or, Open}
use Rattle.judge.specs.declared.why.Rule.{Rule}
use Rattle.judge.specs.declared.why.Rule.TheVariants as rule
use Rattle.judge.specs.Rulings.{IsReached, IsFreelyRefused, IsFree}
use Rattle.judge.specs.Reasons.{TellsDue, HandsDue, IsRuleOfView, IsRuleOfRead, GoesBy, Breaks, misses, unfounded, astray}
use Rattle.judge.proofs.Allowing.{same_as_due, done_is_told, free_of, free_allowed}
use Rattle.judge.proofs.Rows.{hands, rows_iff, keys_iff}

-- Which rule is broken.

pub misses_due : (r : Rule) (w : World) (step : Step) (due answer : Reply) → AllowsReply w step due × IsDue due → GoesBy r w step due → ¬ AllowsReply w step answer → Breaks r w step answer
misses_due r w step due answer is goes broken = misses due is.0 is.1 goes (λ same. broken (same_as_due w step due answer is.1 same is.0))

pub unfounded_free : (r : Rule) (w : World) (step : Step) (answer : Reply) → IsFreelyRefused step → AllowsReply w step reply.Done → GoesBy r w step answer → ¬ AllowsReply w step answer → Breaks r w step answer
unfounded_free r w step answer judged done goes broken = unfounded judged done goes (λ free. broken (free_allowed w step answer judged done free))

-- so what was answered is not allowed
excluded : (w : World) → IsReached w → (r : Rule) (step : Step) (answer : Reply) → Breaks r w step answer → ¬ AllowsReply w step answer
excluded w reached r step answer (misses due is only goes other) allows = other ((reached_has_one reached.0 w reached.1 step).due due answer is allows only)
excluded w reached r step answer (unfounded judged done goes isnt) allows =
    let same : TellTheSame reply.Done answer = (reached_has_one reached.0 w reached.1 step).one reply.Done answer done allows (done_is_told w step) (λ open_. isnt (free_of w step answer judged open_)) in
    isnt (subst (λ (a : Reply). IsFree w step a) same tt)
excluded w reached r step answer (astray of_step isnt) allows = isnt allows

pub excluded_after : (columns : List Bool) (steps : List Step) (replies : List Reply) → IsRun (beginning columns) steps replies → (r : Rule) (step : Step) (answer : Reply)
    → Breaks r (after (beginning columns) steps replies) step answer → ¬ AllowsReply (after (beginning columns) steps replies) step answer
excluded_after columns steps replies run = excluded (after (beginning columns) steps replies) (columns, leads (beginning columns) (beginning columns) steps replies stays run)

-- What is due.

pub done_due : (w : World) (step : Step) → AllowsReply w step reply.Done → TellsDue w step (Or reply.Done)
done_due w step done = (done, done_is_told w step)

-- a cursor that is not over the heap leaves no rows open
not_heap : (w : World) (s n : ℕ) (m : OpenSession) (c : Cursor) (a : Reply) → w.session s ≡ Some m → m.cursor ≡ Some c → a ≢ reply.Refused refusal.NoMemory → c.order ≢ by_heap → ¬ IsLeftOpen w (step.Next s n) a
not_heap w s n m c (reply.Rows r) there at isnt other heap =
    other (subst (λ (c : Cursor). c.order ≡ by_heap) (same_Some heap.1 c (sym heap.3 ∙ (ap (λ (m : OpenSession). m.cursor) (same_Some heap.0 m (sym heap.2 ∙ there)) ∙ at))) heap.4)
not_heap w s n m c (reply.Refused refusal.NoMemory) there at isnt other open_ = isnt refl
not_heap w s n m c _ there at isnt other open_ = open_

pub hands_due : (w : World) (s n : ℕ) (c : Cursor) (due : Due) → (m : OpenSession) × IsReady w s m × (m.cursor ≡ Some c) → HandsDue c n due → TellsDue w (step.Next s n) due
hands_due w s n c (Alone a) may is = (hands w s n may.0 c a may.1 may.2 is.0, is.1)
hands_due w s n c (Or a) may is = (hands w s n may.0 c a may.1 may.2 is.0, not_heap w s n may.0 c a may.1.there may.2 is.1 is.2)
hands_due w s n c Open may is = (reply.Refused refusal.NoMemory, (may.0, c, may.1, may.2, is), tt)

-- The making of an index.

-- where it is there already, nothing is made
pub made_before : (w : World) (c : ℕ) → c < 4 → ¬ LacksIndex w c → AllowsReply w (step.CreateIndex c) reply.Done
made_before w c small isnt = ((small, λ lacks. absurd (isnt (small, lacks))), λ lacks. absurd (isnt (small, lacks)))

-- a test that failed
pub not_of : {P : Type 0} (b : Bool) → b ≡ false → (IsTrue b ↔ P) → ¬ P
not_of b isnt says is = let yes : b ≡ true = says.1 is in let never : false ≡ true = sym isnt ∙ yes in absurd (cc)

-- What a cursor hands out, as lists.

some_left : (rest kept : List Row) → rest ≡ kept → ¬ IsOver (row_of_key kept) → 0 < length rest
some_left [] kept same left = absurd (left (λ key. ap (λ l. row_of_key l key) (sym same)))
some_left (r ∷ rest) kept same left = omega arith

not_by_heap : (cursor : KeptCursor) (o : PlainOrder) → cursor.order ≡ o → plain_order_of o ≢ by_heap → (cursor_of cursor).order ≢ by_heap
not_by_heap cursor o is other heap = other (ap plain_order_of (sym is) ∙ heap)

pub rows_due : (cursor : KeptCursor) (index n : ℕ) (rest : List Row) (rows : Vec Row) → cursor.order ≡ order.Index index → rest ≡ cursor.rest → IsInOrder (index_of cursor.order) rest
    → ¬ IsOver (cursor_of cursor).rest → rows.items ≡ take (max 1 n) rest → HandsDue (cursor_of cursor) n (Or (reply.Rows rows))
rows_due cursor index n rest rows by same in_order left is = (
  (rows_iff cursor index n rest rows.items true by same in_order (λ yes. (some_left rest cursor.rest same left, is), λ both. refl)).0 refl,
  λ e. cc,
  not_by_heap cursor (order.Index index) by (λ e. cc),
)

pub keys_due : (cursor : KeptCursor) (n : ℕ) (rest : List Row) (keys : Vec ℕ) → cursor.order ≡ order.Keys → rest ≡ cursor.rest → IsInOrder (index_of cursor.order) rest
    → ¬ IsOver (cursor_of cursor).rest → keys.items ≡ keys_of (take (max 1 n) rest) → HandsDue (cursor_of cursor) n (Or (reply.Keys keys))
keys_due cursor n rest keys by same in_order left is = (
  (keys_iff cursor n rest keys.items true by same in_order (λ yes. (some_left rest cursor.rest same left, is), λ both. refl)).0 refl,
  λ e. cc,
  not_by_heap cursor order.Keys by (λ e. cc),
)

-- Reads.

pub read_by : (r : Rule) (w : World) (s key : ℕ) → ¬ Holds w s key → IsRuleOfView r w s → IsRuleOfRead r w s key
read_by rule.OwnWrites w s key none view = absurd view
read_by _ w s key none view = (none, view)
