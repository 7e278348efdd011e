-- A session's step by a call of its own.
use Rattle.std.proofs.Common.{◌≡◌, ◌∙◌, ℕ, true, false, List, Option, Some, None, Ok, Err, set, refl, sym, ap, subst}
use Rattle.std.specs.Prelude.{Result, IfErr}
use Rattle.std.specs.Option.{option_map, is_some}
use Rattle.tuple_header.specs.declared.version.Row.{Row}
use Rattle.calls.specs.declared.step.Step.{Step}
use Rattle.calls.specs.declared.step.Step.TheVariants as step
use Rattle.calls.specs.declared.reply.Reply.{Reply}
use Rattle.calls.specs.declared.reply.Refusal.{Refusal}
use Rattle.calls.specs.declared.reply.Refusal.TheVariants as refusal
use Rattle.calls.specs.Steps.{session_of}
use Rattle.calls.specs.Bars.{BarsReady}
use Rattle.vacuum_passes.specs.View.{disturbed}
use Rattle.session_steps.specs.State.{State, is_answered_above, engine_sessions}
use Rattle.session_steps.specs.Exact.{AnswersStep}
use Rattle.session_steps.specs.Replies.{found_reply}
use Rattle.vacuum_engine.specs.State.{EngineView}
use Rattle.vacuum_engine.specs.Exact.{ExactBesideVacuum}
use Rattle.vacuum_engine.proofs.Others.{others-follow}
use Rattle.session_core.specs.State.{WaitingView, with_waits}
use Rattle.session_core.specs.Notes.{gives_back, NotesWait}
use Rattle.session_core.proofs.Noting.{Follows, noted-follows}
use Rattle.session_core.proofs.Stepping.{beside-exact}

-- what bars from a look is not Busy
notes-found : (parts : WaitingView) (s : ℕ) (found : Result (Option Row) Refusal) (ended : List (Option ℕ)) → IfErr found (BarsReady (engine_sessions parts.engine.core) s) → ended ≡ set parts.waits s None
    → NotesWait parts s false (found_reply found) (record { engine = parts.engine; waits = ended }) (found_reply found)
notes-found parts s (Ok row) ended refused is = (refl, ap (with_waits parts.engine) is)
notes-found parts s (Err (refusal.Busy o)) ended refused is = absurd refused
notes-found parts s (Err r) ended refused is = (refl, ap (with_waits parts.engine) is)

-- the engine was disturbed, its core did the step, and the reply was noted
module _ (old parts mid : WaitingView) (same : parts ≡ mid) (core : mid.engine.core ≡ old.engine.core) (vacuum : mid.engine.vacuum ≡ option_map (disturbed true) old.engine.vacuum) (waits : mid.waits ≡ old.waits) where
  pub direct-follows : (step : Step) (s : ℕ) (given : Reply) (st : State) (answer : Reply) (new : WaitingView) → session_of step ≡ Some s → is_answered_above step ≡ false → is_some (session_of step) ≡ true
      → AnswersStep parts.engine.core step given st → NotesWait (with_waits (record { core = st; vacuum = parts.engine.vacuum }) parts.waits) s (gives_back step) given new answer → Follows old step answer new
  direct-follows step s given st answer new of beside of_session does notes =
      let core_same = ap (λ (e : WaitingView). e.engine.core) same ∙ core in
      let vacuum_same = ap (λ (e : WaitingView). e.engine.vacuum) same ∙ vacuum ∙ ap (λ b. option_map (disturbed b) old.engine.vacuum) (sym of_session) in
      let waits_same = ap (λ (e : WaitingView). e.waits) same ∙ waits in
      let below : EngineView = record { core = st; vacuum = parts.engine.vacuum } in
      let answers = subst (λ (before : State). AnswersStep before step given st) core_same does in
      let exact : ExactBesideVacuum old.engine step given below = record { core = answers.exact; vacuum = vacuum_same } in
      noted-follows old new step s below given answer of (others-follow old.engine below step given beside answers.follows exact) (beside-exact old.engine below step given beside exact)
      (subst (λ waits. NotesWait (with_waits below waits) s (gives_back step) given new answer) waits_same notes)

  -- a look for a row changes nothing but the session's own wait
  pub get-follows : (s key : ℕ) (found : Result (Option Row) Refusal) (ended : List (Option ℕ)) → AnswersStep parts.engine.core (step.Get s key) (found_reply found) parts.engine.core → IfErr found (BarsReady (engine_sessions parts.engine.core) s)
      → ended ≡ set parts.waits s None → Follows old (step.Get s key) (found_reply found) (record { engine = parts.engine; waits = ended })
  get-follows s key found ended does refused waits_end = direct-follows (step.Get s key) s (found_reply found) parts.engine.core (found_reply found) (record { engine = parts.engine; waits = ended }) refl refl refl does
      (notes-found parts s found ended refused waits_end)
