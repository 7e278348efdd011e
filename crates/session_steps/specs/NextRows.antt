-- What a cursor answers that writes its next rows to places of the caller's.
use Rattle.std.specs.Prelude.{◌≡◌, ℕ, ◌<◌, List, length, Result, Ok, Err}
use Rattle.tuple_header.specs.declared.row_place.RowPlace.{RowPlace}
use Rattle.tuple_header.specs.Places.{places_with}
use Rattle.table_scans.specs.Keys.{places_with_keys}
use Rattle.calls.specs.declared.step.Step.TheVariants as step
use Rattle.calls.specs.declared.reply.Reply.{Reply}
use Rattle.calls.specs.declared.reply.Reply.TheVariants as reply
use Rattle.calls.specs.declared.reply.Refusal.{Refusal}
use Rattle.calls.specs.declared.reply.Refusal.TheVariants as refusal
use Rattle.session_steps.specs.State.{State}
use Rattle.session_steps.specs.Agrees.{FollowsByNotes}
use Rattle.session_steps.specs.Takes.{HandsOutUpTo, HandsOutByKeys}

-- The answer is that of the reply: how many rows or keys it has, none where nothing is left, or the refusal. Its rows or keys are in the
-- first places: all others are as they were.
abbrev pub WritesReply : Reply → List RowPlace → (answer : Result ℕ Refusal) → (after : List RowPlace) → Type 0
WritesReply (reply.Rows rows) places answer after = (answer ≡ Ok (length rows.items)) × (after ≡ places_with rows.items places)
WritesReply (reply.Keys keys) places answer after = (answer ≡ Ok (length keys.items)) × (after ≡ places_with_keys keys.items places)
WritesReply (reply.Refused refusal) places answer after = (answer ≡ Err refusal) × (after ≡ places)
WritesReply reply places answer after = (answer ≡ Ok 0) × (after ≡ places)

-- What is so beside what the history says of the reply. Some rows or keys are handed out, up to so many. A cursor at its
-- end and a refusal leave all as it was. No memory is asked for.
abbrev pub ExactNextRows : State → ℕ → ℕ → Reply → State → Type 0
ExactNextRows old s most (reply.Rows rows) new = (0 < length rows.items) × HandsOutUpTo old new s most rows.items
ExactNextRows old s most (reply.Keys keys) new = (0 < length keys.items) × HandsOutByKeys old new s most keys.items
ExactNextRows old s most reply.End new = new ≡ old
ExactNextRows old s most (reply.Refused refusal.NoMemory) new = ⊥
ExactNextRows old s most (reply.Refused refusal) new = new ≡ old
ExactNextRows old s most reply new = ⊥

-- It is answered as a step that asks for as many rows as there are places. The reply is one that the history allows where what is noted
-- of the pages holds.
pub record AnswersNextRows (old : State) (s : ℕ) (places : List RowPlace) (answer : Result ℕ Refusal) (after : List RowPlace) (new : State) : Type 0 where
  pub reply : Reply
  pub written : WritesReply reply places answer after
  pub follows : FollowsByNotes old (step.Next s (length places)) reply new
  pub exact : ExactNextRows old s (length places) reply new
