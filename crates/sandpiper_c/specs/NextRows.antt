-- What a call does that hands out the next rows or keys of a cursor.
use Rattle.std.specs.Prelude.{◌≡◌, ℕ, zero, suc, true, List, [], ◌∷◌, length, slice_set, Option, Some, None, Result, Ok, Err}
use Rattle.xid_circle.specs.Numbers.{SessionNo, Count}
use Rattle.tuple_header.specs.declared.row_place.RowPlace.{RowPlace}
use Rattle.calls.specs.declared.step.Step.TheVariants as step
use Rattle.calls.specs.declared.reply.Reply.{Reply}
use Rattle.calls.specs.declared.reply.Refusal.{Refusal}
use Rattle.session_steps.specs.NextRows.{WritesReply, ExactNextRows}
use Rattle.vacuum_engine.specs.State.{noted}
use Rattle.session_core.specs.Clauses.{WaitingFollows}
use Rattle.c_handles.specs.declared.database.Sandpiper.{Sandpiper}
use Rattle.c_handles.specs.declared.held.Held.{Held}
use Rattle.c_handles.specs.declared.status.CallStatus.{CallStatus}
use Rattle.c_handles.specs.declared.status.CallStatus.TheVariants as status
use Rattle.c_handles.specs.CallStatus.{number_of_status, status_of_reply}
use Rattle.sandpiper_c.specs.Calls.{held_by}

-- the status of an answer: there are rows, or none is left, or it was refused
abbrev pub status_of_answer : Result ℕ Refusal → CallStatus
status_of_answer (Ok zero) = status.End
status_of_answer (Ok (suc n)) = status.Rows
status_of_answer (Err r) = status.Refused r

-- how many rows or keys an answer has
abbrev pub count_of : Result ℕ Refusal → ℕ
count_of (Ok n) = n
count_of (Err r) = 0

-- The engine gave a reply that the history allows to a step that asks for as many rows as C has places, as its own contract says. Its
-- rows or keys are in the first places, all else in the places is as it was, and the status is the reply's number.
-- By it the session's own wait ends.
pub record HandsRows (old : Held) (s : SessionNo) (places : List RowPlace) (code : ℕ) (after : List RowPlace) (count : Count) (new : Held) : Type 0 where
  pub reply : Reply
  pub follows : WaitingFollows old.engine (step.Next s (length places)) reply new.engine
  pub exact : ExactNextRows old.engine.engine.core s (length places) reply new.engine.engine.core
  pub vacuum : new.engine.engine.vacuum ≡ (noted true old.engine.engine).vacuum
  pub waits : new.engine.waits ≡ slice_set old.engine.waits s None
  pub same_reply : new.reply ≡ old.reply
  pub status : code ≡ number_of_status (status_of_reply reply)
  pub answer : Result ℕ Refusal
  pub written : WritesReply reply places answer after
  pub number : count ≡ count_of answer

-- nothing is done, and no row is written
pub record HandsNothing (old : Option Held) (places after : List RowPlace) (count : ℕ) (new : Option Held) : Type 0 where
  pub same : new ≡ old
  pub unwritten : after ≡ places
  pub none : count ≡ 0

-- or C has no place for a row
abbrev pub HandsToPlaces : Held → SessionNo → List RowPlace → (code : ℕ) → List RowPlace → (count : Count) → Held → Type 0
HandsToPlaces old s [] code after count new = (code ≡ number_of_status status.NoPlace) × HandsNothing (Some old) [] after count (Some new)
HandsToPlaces old s (place ∷ places) code after count new = HandsRows old s (place ∷ places) code after count new

-- or the handle has no engine
abbrev pub HandsOutHeld : Option Held → SessionNo → List RowPlace → (code : ℕ) → List RowPlace → (count : Count) → Option Held → Type 0
HandsOutHeld None s places code after count new = (code ≡ number_of_status status.NoEngine) × HandsNothing None places after count new
HandsOutHeld (Some old) s places code after count new = (held : Held) × (new ≡ Some held) × HandsToPlaces old s places code after count held

abbrev pub HandsOutNext : Sandpiper → SessionNo → List RowPlace → (code : ℕ) → List RowPlace → (count : Count) → Sandpiper → Type 0
HandsOutNext old s places code after count new = HandsOutHeld (held_by old) s places code after count (held_by new)
