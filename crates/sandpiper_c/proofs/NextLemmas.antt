-- The next rows, as C has them.
use Rattle.std.proofs.Common.{◌≡◌, ℕ, zero, suc, ◌<◌, List, [], ◌∷◌, length, Ok, refl, ap, ◌∙◌, arith}
use Rattle.std.specs.Prelude.{Result}
use Rattle.tuple_header.specs.declared.row_place.RowPlace.{RowPlace}
use Rattle.calls.specs.declared.reply.Reply.{Reply}
use Rattle.calls.specs.declared.reply.Reply.TheVariants as reply
use Rattle.calls.specs.declared.reply.Refusal.{Refusal}
use Rattle.calls.specs.declared.reply.Refusal.TheVariants as refusal
use Rattle.session_steps.specs.State.{State}
use Rattle.session_steps.specs.NextRows.{WritesReply, ExactNextRows}
use Rattle.session_core.specs.NextRows.{EngineNextRows}
use Rattle.c_handles.specs.declared.held.Held.{Held}
use Rattle.c_handles.specs.declared.status.CallStatus.TheVariants as status
use Rattle.c_handles.specs.CallStatus.{number_of_status, status_of_reply}
use Rattle.sandpiper_c.specs.NextRows.{status_of_answer, count_of, HandsRows, HandsToPlaces}

some-rows : (n : ℕ) → 0 < n → status_of_answer (Ok n) ≡ status.Rows
some-rows zero some = absurd (omega arith)
some-rows (suc n) some = refl

-- the status of the answer is that of the reply
status-same : (old new : State) (s most : ℕ) (places after : List RowPlace) (answer : Result ℕ Refusal) (reply : Reply) → ExactNextRows old s most reply new → WritesReply reply places answer after
    → status_of_answer answer ≡ status_of_reply reply
status-same old new s most places after answer (reply.Rows rows) exact is = ap status_of_answer is.0 ∙ some-rows (length rows.items) exact.0
status-same old new s most places after answer (reply.Keys keys) exact is = ap status_of_answer is.0 ∙ some-rows (length keys.items) exact.0
status-same old new s most places after answer reply.End exact is = ap status_of_answer is.0
status-same old new s most places after answer (reply.Refused refusal.NoMemory) exact is = absurd exact
status-same old new s most places after answer (reply.Refused r) exact is = ap status_of_answer is.0
status-same old new s most places after answer reply exact is = absurd exact

hands-rows : (old new : Held) (s : ℕ) (places after : List RowPlace) (answer : Result ℕ Refusal) → EngineNextRows old.engine s places answer after new.engine → new.reply ≡ old.reply
    → HandsRows old s places (number_of_status (status_of_answer answer)) after (count_of answer) new
hands-rows old new s places after answer next same = record {
  reply = next.reply;
  follows = next.follows;
  exact = next.exact;
  vacuum = next.vacuum;
  waits = next.waits;
  same_reply = same;
  status = ap number_of_status (status-same old.engine.engine.core new.engine.engine.core s (length places) places after answer next.reply next.exact next.written);
  answer = answer;
  written = next.written;
  number = refl;
}

-- where there is a place
pub to-places : (old new : Held) (s : ℕ) (places after : List RowPlace) (answer : Result ℕ Refusal) → 0 < length places → EngineNextRows old.engine s places answer after new.engine → new.reply ≡ old.reply
    → HandsToPlaces old s places (number_of_status (status_of_answer answer)) after (count_of answer) new
to-places old new s [] after answer some next same = absurd (omega arith)
to-places old new s (place ∷ places) after answer some next same = hands-rows old new s (place ∷ places) after answer next same
