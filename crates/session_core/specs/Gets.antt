-- What an engine answers that writes the row of a key to a place of the caller's.
use Rattle.std.specs.Prelude.{◌≡◌, ℕ, Bool, Option, Some, None, Result, Ok, Err, IfErr}
use Rattle.std.specs.Option.{is_some}
use Rattle.tuple_header.specs.declared.row_place.RowPlace.{RowPlace}
use Rattle.tuple_header.specs.declared.version.Row.{Row}
use Rattle.tuple_header.specs.Places.{place_with}
use Rattle.calls.specs.declared.step.Step.TheVariants as step
use Rattle.calls.specs.declared.reply.Refusal.{Refusal}
use Rattle.calls.specs.Bars.{BarsReady}
use Rattle.session_steps.specs.State.{State, engine_sessions}
use Rattle.session_steps.specs.Exact.{AnswersStep}
use Rattle.session_steps.specs.Replies.{found_reply}
use Rattle.session_core.specs.State.{WaitingView}
use Rattle.session_core.specs.Clauses.{WaitingFollows, WaitingExact}

-- whether there is a row
abbrev pub whether_found : Result (Option Row) Refusal → Result Bool Refusal
whether_found (Ok row) = Ok (is_some row)
whether_found (Err refusal) = Err refusal

-- the place with the row, if there is one
abbrev pub place_of_found : Result (Option Row) Refusal → RowPlace → RowPlace
place_of_found (Ok (Some row)) place = place_with row place
place_of_found found place = place

-- A row was found, or none, or the look was refused; the answer says so, and the place has the row. Nothing else changes.
pub record LooksUp (core : State) (s key : ℕ) (place : RowPlace) (answer : Result Bool Refusal) (after : RowPlace) : Type 0 where
  pub found : Result (Option Row) Refusal
  pub does : AnswersStep core (step.Get s key) (found_reply found) core
  pub refused : IfErr found (BarsReady (engine_sessions core) s)
  pub answers : answer ≡ whether_found found
  pub placed : after ≡ place_of_found found place

-- It is answered as the step, by a row that was found, or none, or a refusal.
pub record EngineGets (old : WaitingView) (s key : ℕ) (place : RowPlace) (answer : Result Bool Refusal) (after : RowPlace) (new : WaitingView) : Type 0 where
  pub found : Result (Option Row) Refusal
  pub follows : WaitingFollows old (step.Get s key) (found_reply found) new
  pub exact : WaitingExact old (step.Get s key) (found_reply found) new
  pub answers : answer ≡ whether_found found
  pub placed : after ≡ place_of_found found place
