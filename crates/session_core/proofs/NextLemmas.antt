-- The next rows of a cursor, beside a vacuum that may be running.
use Rattle.std.proofs.Common.{◌≡◌, ◌∙◌, ℕ, true, List, length, Option, Some, None, set, refl, sym, subst}
use Rattle.std.specs.Prelude.{Result}
use Rattle.std.specs.Option.{option_map}
use Rattle.tuple_header.specs.declared.row_place.RowPlace.{RowPlace}
use Rattle.calls.specs.declared.step.Step.TheVariants as step
use Rattle.calls.specs.declared.reply.Reply.{Reply}
use Rattle.calls.specs.declared.reply.Reply.TheVariants as reply
use Rattle.calls.specs.declared.reply.Refusal.{Refusal}
use Rattle.calls.specs.declared.reply.Refusal.TheVariants as refusal
use Rattle.table_scans.specs.declared.progress.CursorScan.TheVariants.{Rows, Keys}
use Rattle.session_steps.specs.State as core
use Rattle.session_steps.specs.State.{with_cursor}
use Rattle.session_steps.specs.NextRows.{ExactNextRows, AnswersNextRows}
use Rattle.vacuum_passes.specs.View.{disturbed}
use Rattle.refinement.specs.Allowed.{Allows}
use Rattle.vacuum_engine.specs.Between.{KeepsOrTakes, Changes}
use Rattle.vacuum_engine.proofs.Others.{sessions-follow}
use Rattle.session_core.specs.State.{WaitingView, with_waits}
use Rattle.session_core.specs.Clauses.{WaitingFollows}
use Rattle.session_core.proofs.WaitingSteps.{unblocked-follows}
use Rattle.session_core.specs.NextRows.{EngineNextRows}
use Rattle.session_core.proofs.WaitsAfter.{freed}

-- the cursor of one session alone moves, or nothing changes
pub next-change : (old new : core.State) (s n : ℕ) (reply : Reply) → ExactNextRows old s n reply new → Changes old new
next-change old new s n (reply.Rows rows) e = Changes.becomes s e.1.session (with_cursor (Some (Rows e.1.after)) e.1.session) e.1.there (KeepsOrTakes.keeps refl) e.1.is
next-change old new s n (reply.Keys keys) e = Changes.becomes s e.1.session (with_cursor (Some (Keys e.1.after)) e.1.session) e.1.there (KeepsOrTakes.keeps refl) e.1.is
next-change old new s n reply.End e = Changes.nothing e
next-change old new s n (reply.Refused refusal.NoMemory) e = absurd e
next-change old new s n (reply.Refused refusal) e = Changes.nothing e
next-change old new s n reply e = absurd e

-- it gives back no key
freed-next : (s n : ℕ) (reply : Reply) (waits : List (Option ℕ)) → freed (step.Next s n) reply waits ≡ waits
freed-next s n (reply.Refused r) waits = refl
freed-next s n reply waits = refl

pub engine-next_rows : (old new : WaitingView) (s : ℕ) (places : List RowPlace) (answer : Result ℕ Refusal) (after : List RowPlace) → AnswersNextRows old.engine.core s places answer after new.engine.core
    → new.engine.vacuum ≡ option_map (disturbed true) old.engine.vacuum → new.waits ≡ set old.waits s None → EngineNextRows old s places answer after new
engine-next_rows old new s places answer after does vacuum waits =
    let n = length places in
    let below = sessions-follow old.engine new.engine (step.Next s n) does.reply refl does.follows (next-change old.engine.core new.engine.core s n does.reply does.exact) vacuum in
    let noted = unblocked-follows old (step.Next s n) does.reply new.engine (λ w o allows busy. subst (Allows w (step.Next s n)) busy allows) below in
    record {
      reply = does.reply;
      written = does.written;
      follows = subst (λ waits. WaitingFollows old (step.Next s n) does.reply (with_waits new.engine waits)) (freed-next s n does.reply (set old.waits s None) ∙ sym waits) noted;
      exact = does.exact;
      vacuum = vacuum;
      waits = waits;
    }
