-- What comes of a step of the engine below, noted.
use Rattle.std.proofs.Common.{◌≡◌, ◌≢◌, ℕ, List, Option, Some, None, cond, set, refl, sym, ap, ◌∙◌, subst, inl, inr}
use Rattle.std.proofs.lemmas.Option.{same_Some, none-some}
use Rattle.calls.specs.declared.step.Step.{Step}
use Rattle.calls.specs.declared.step.Step.TheVariants as step
use Rattle.calls.specs.declared.reply.Reply.{Reply}
use Rattle.calls.specs.declared.reply.Reply.TheVariants as reply
use Rattle.calls.specs.declared.reply.Refusal.TheVariants as refusal
use Rattle.calls.specs.Steps.{session_of}
use Rattle.refinement.specs.Allowed.{Allows}
use Rattle.refinement.proofs.Runs.{blocked_of}
use Rattle.vacuum_engine.specs.State.{EngineView}
use Rattle.vacuum_engine.specs.Clauses.{EngineFollows}
use Rattle.vacuum_engine.specs.Exact.{EngineExact}
use Rattle.session_core.specs.State.{WaitingView, noted_wait, woken, given_back, with_waits}
use Rattle.session_core.specs.Clauses.{WaitingFollows, WaitingExact}
use Rattle.session_core.proofs.WaitingLaws.{IsNeverBusy, NotedFollows, OwnerlessFollows}
use Rattle.session_core.specs.Notes.{gives_back}
use Rattle.session_core.proofs.WaitingSteps.{unblocked-follows, unblocked-is_exact, blocked-follows, deadlock-follows}
use Rattle.session_core.proofs.WaitsAfter.{freed}

abbrev pub Follows : WaitingView → Step → Reply → WaitingView → Type 0
Follows old step reply new = WaitingFollows old step reply new × WaitingExact old step reply new

-- keys that are given back are the session's
gives-woken : (step : Step) (s : ℕ) (waits : List (Option ℕ)) → session_of step ≡ Some s → given_back step waits ≡ cond (gives_back step) (woken s waits) waits
gives-woken (step.RollbackTo t) s waits is = ap (λ n. woken n waits) (same_Some t s is)
gives-woken (step.Commit t) s waits is = ap (λ n. woken n waits) (same_Some t s is)
gives-woken (step.Abort t) s waits is = ap (λ n. woken n waits) (same_Some t s is)
gives-woken step s waits is = refl

-- a step of nobody gives none back
gives-none : (step : Step) (waits : List (Option ℕ)) → session_of step ≡ None → given_back step waits ≡ waits
gives-none (step.RollbackTo t) waits is = absurd (none-some t (sym is))
gives-none (step.Commit t) waits is = absurd (none-some t (sym is))
gives-none (step.Abort t) waits is = absurd (none-some t (sym is))
gives-none step waits is = refl

freed-none : (step : Step) (reply : Reply) (waits : List (Option ℕ)) → session_of step ≡ None → freed step reply waits ≡ waits
freed-none step (reply.Refused r) waits is = refl
freed-none step reply waits is = gives-none step waits is

-- and nobody is told Busy
never_busy : (step : Step) (reply : Reply) → session_of step ≡ None → IsNeverBusy step reply
never_busy step r is w o allows busy =
    let b = blocked_of w step o (subst (Allows w step) busy allows) in none-some b.session (sym is ∙ b.of)

exactly-none : (old : WaitingView) (step : Step) (below : EngineView) (given : Reply) → session_of step ≡ None → EngineFollows old.engine step given below → EngineExact old.engine step given below
    → WaitingExact old step given (with_waits below old.waits)
exactly-none old step below (reply.Refused (refusal.Busy o)) is follows exact = (exact, ap (λ t. noted_wait t (Some o) old.waits) (sym is))
exactly-none old step below given is follows exact =
    subst (λ waits. WaitingExact old step given (with_waits below waits)) (ap (λ t. freed step given (noted_wait t None old.waits)) is ∙ freed-none step given old.waits is)
    (unblocked-is_exact old step given below (λ o busy. absurd (cc busy)) follows exact)

pub ownerless-follows : OwnerlessFollows
ownerless-follows old step below given is follows exact = (
  subst (λ waits. WaitingFollows old step given (with_waits below waits)) (ap (λ t. freed step given (noted_wait t None old.waits)) is ∙ freed-none step given old.waits is)
      (unblocked-follows old step given below (never_busy step given is) follows),
  exactly-none old step below given is follows exact,
)

-- A session's step.

as_is : (old : WaitingView) (step : Step) {new new' : WaitingView} {answer answer' : Reply} → answer ≡ answer' → new ≡ new' → Follows old step answer' new' → Follows old step answer new
as_is old step {new} {new'} {answer} {answer'} same is follows = subst (λ r. Follows old step r new) (sym same) (subst (Follows old step answer') (sym is) follows)

other : (old : WaitingView) (step : Step) (s : ℕ) (below : EngineView) (given : Reply) → session_of step ≡ Some s → ((o : ℕ) → given ≢ reply.Refused (refusal.Busy o))
    → EngineFollows old.engine step given below → EngineExact old.engine step given below → Follows old step given (with_waits below (freed step given (set old.waits s None)))
other old step s below given is never follows exact = subst (λ t. Follows old step given (with_waits below (freed step given (noted_wait t None old.waits)))) is (
  unblocked-follows old step given below (λ w o allows. never o) follows,
  unblocked-is_exact old step given below never follows exact,
)

pub noted-follows : NotedFollows
noted-follows old new step s below (reply.Refused (refusal.Busy o)) answer is follows exact notes = elim notes [
  | inl begins ↦ as_is old step begins.told begins.is (blocked-follows old step s o below is begins.free follows exact)
  | inr meets ↦ as_is old step meets.told meets.is (deadlock-follows old step s o below is meets.ring follows exact)
]
noted-follows old new step s below (reply.Refused r) answer is follows exact notes =
    as_is old step notes.0 notes.1 (other old step s below (reply.Refused r) is (λ o busy. absurd (cc busy)) follows exact)
noted-follows old new step s below given answer is follows exact notes =
    as_is old step notes.0 (notes.1 ∙ ap (with_waits below) (sym (gives-woken step s (set old.waits s None) is))) (other old step s below given is (λ o busy. absurd (cc busy)) follows exact)
