-- What an engine with its vacuum answers that writes the next rows of a cursor to places of the caller's.
use Rattle.std.specs.Prelude.{◌≡◌, ℕ, true, List, length, None, Result, slice_set}
use Rattle.std.specs.Option.{option_map}
use Rattle.tuple_header.specs.declared.row_place.RowPlace.{RowPlace}
use Rattle.calls.specs.declared.step.Step.TheVariants as step
use Rattle.calls.specs.declared.reply.Reply.{Reply}
use Rattle.calls.specs.declared.reply.Refusal.{Refusal}
use Rattle.session_steps.specs.NextRows.{WritesReply, ExactNextRows}
use Rattle.vacuum_passes.specs.View.{disturbed}
use Rattle.session_core.specs.State.{WaitingView}
use Rattle.session_core.specs.Clauses.{WaitingFollows}

-- It is answered as a step that asks for as many rows as there are places. The reply is one that the history allows. A running vacuum
-- is disturbed by it, and its session's own wait ends, as by a session's step.
pub record EngineNextRows (old : WaitingView) (s : ℕ) (places : List RowPlace) (answer : Result ℕ Refusal) (after : List RowPlace) (new : WaitingView) : Type 0 where
  pub reply : Reply
  pub written : WritesReply reply places answer after
  pub follows : WaitingFollows old (step.Next s (length places)) reply new
  pub exact : ExactNextRows old.engine.core s (length places) reply new.engine.core
  pub vacuum : new.engine.vacuum ≡ option_map (disturbed true) old.engine.vacuum
  pub waits : new.waits ≡ slice_set old.waits s None
