-- What an arm of a match did, and the row that C asks to write.
use Rattle.std.proofs.Common.{◌≡◌, ◌≤◌, length, refl, sym, subst}
use Rattle.std.proofs.lemmas.List.{length-take-le}
use Rattle.tuple_header.specs.declared.row_place.RowPlace.{RowPlace}
use Rattle.calls.specs.declared.step.Step.{Step}
use Rattle.calls.specs.declared.reply.Reply.{Reply}
use Rattle.session_core.specs.Clauses.{WaitingFollows, WaitingExact}
use Rattle.c_handles.specs.declared.held.Held.{Held}
use Rattle.sandpiper_c.specs.Rows.{IsText, text_within}

-- the engine that is held did the step, with this reply
abbrev pub Answered : Held → Step → Reply → Held → Type 0
Answered old step reply new = WaitingFollows old.engine step reply new.engine × WaitingExact old.engine step reply new.engine

-- what is so of what an arm was given, answered and left, by the names that they have outside
pub by-arm : {A B C : Type 0} {asked given : A} {answer came : B} {new after : C} (P : A → B → C → Type 0) → asked ≡ given → answer ≡ came → new ≡ after → P given came after → P asked answer new
by-arm {A} {B} {C} {asked} {given} {answer} {came} {new} {after} P is was now holds =
    subst (λ c. P asked answer c) (sym now) (subst (λ b. P asked b after) (sym was) (subst (λ a. P a came after) (sym is) holds))

-- bytes that are there are the body
pub is-text : (row : RowPlace) → row.length ≤ length row.body → IsText row (text_within row)
is-text row within = record { key = refl; cols = refl; body = record { long = length-take-le row.length row.body within; first = λ there. refl } }
