-- An engine whose sessions wait: what comes of a step of the engine below.
use Rattle.std.proofs.Common.{◌≡◌, ℕ, ◌<◌, length, set, Option, Some, None, true, cond, nat_eq, refl, sym, ap, ◌∙◌, subst, arith, replicate, zero, suc}
use Rattle.std.specs.Prelude.{IsSome}
use Rattle.std.specs.Option.{option_map}
use Rattle.std.proofs.Math.ListN.{length-set}
use Rattle.std.proofs.lemmas.Option.{same_Some, none-some}
use mathlib.Core.Path.{fun_ext}
use Rattle.history.specs.World.{World, OpenSession, ClosesRing}
use Rattle.history.specs.Moves.{stepped, change, as_failed, blocked_by}
use Rattle.calls.specs.declared.step.Step.{Step}
use Rattle.calls.specs.declared.step.Step.TheVariants as step
use Rattle.calls.specs.declared.reply.Reply.{Reply}
use Rattle.calls.specs.declared.reply.Reply.TheVariants as reply
use Rattle.calls.specs.declared.reply.Refusal.TheVariants as refusal
use Rattle.calls.specs.Steps.{session_of}
use Rattle.refinement.specs.Allowed.{Allows, by_its_session, next}
use Rattle.refinement.proofs.Runs.{blocked_of}
use Rattle.refinement.proofs.Steps.{Agrees-waits}
use Rattle.session_steps.specs.State.{seen, with_failed}
use Rattle.session_steps.specs.Agrees.{KeepsAllTargets}
use Rattle.session_steps.proofs.OwnIdsLemmas.{open-within}
use Rattle.vacuum_passes.specs.View.{VacuumView, disturbed}
use Rattle.vacuum_engine.specs.State.{EngineView, failed_at}
use Rattle.vacuum_engine.specs.Agrees.{EngineAgrees}
use Rattle.vacuum_engine.specs.Clauses.{EngineFollows, EndsWell, StaysBelow, OnEnd}
use Rattle.vacuum_engine.specs.Exact.{EngineExact}
use Rattle.vacuum_engine.proofs.Failing.{open_there, failing-agrees}
use Rattle.waits.specs.View.{wait_in}
use Rattle.waits.proofs.WaitLemmas.{wait_in-set, nobody_waits}
use Rattle.session_core.specs.State.{WaitingView, noted_wait, WaitingAgrees, with_waits}
use Rattle.session_core.proofs.WaitingLaws.{UnblockedFollows, UnblockedIsExact, BlockedFollows, DeadlockFollows, NewIsWaiting}
use Rattle.session_core.proofs.WaitsAfter.{freed, length-ended, length-freed, ended-stepped, next-waits}

-- the engine below agrees whoever waits for whom
engine-waits : (e : EngineView) (w : World) (waits : ℕ → Option ℕ) → EngineAgrees e w → EngineAgrees e (record w { waits_for = waits })
engine-waits e w waits agrees = record {
  core = record { found = Agrees-waits (seen e.core) w waits agrees.core.found; indexes = agrees.core.indexes; scans = agrees.core.scans; written = agrees.core.written; sound = agrees.core.sound };
  runs = agrees.runs;
  maps = agrees.maps;
  vacuum = agrees.vacuum;
  within = agrees.within;
}

-- the engine below is never allowed to answer Deadlock
never_deadlock : (w : World) (step : Step) → ¬ Allows w step (reply.Refused refusal.Deadlock)
never_deadlock w step.VacuumStep allows = allows
never_deadlock w _ allows = allows

-- Answered otherwise than Busy.

plainly : (old : WaitingView) (step : Step) (reply : Reply) (below : EngineView) → EngineFollows old.engine step reply below → (w : World) → WaitingAgrees old w
    → Allows w step reply × WaitingAgrees (with_waits below (freed step reply (noted_wait (session_of step) None old.waits))) (next w step reply)
    × KeepsAllTargets old.engine.core below.core × StaysBelow below × OnEnd reply ((v : VacuumView) → old.engine.vacuum ≡ Some v → EndsWell old.engine below w v)
plainly old step reply below follows w agrees = let f = follows w agrees.engine in (
  f.0,
  record {
    engine = f.1;
    count = length-freed step reply (noted_wait (session_of step) None old.waits) ∙ (length-ended (session_of step) old.waits ∙ agrees.count);
    waits = next-waits old.waits w agrees.waits step reply f.0;
  },
  f.2,
  f.3,
  f.4,
)

pub unblocked-follows : UnblockedFollows
unblocked-follows old step (reply.Refused (refusal.Busy o)) below never follows w agrees = absurd (never w o (follows w agrees.engine).0 refl)
unblocked-follows old step (reply.Refused refusal.Deadlock) below never follows w agrees = absurd (never_deadlock w step (follows w agrees.engine).0)
unblocked-follows old step reply below never follows w agrees = plainly old step reply below follows w agrees

pub unblocked-is_exact : UnblockedIsExact
unblocked-is_exact old step (reply.Refused (refusal.Busy o)) below never follows exact = absurd (never o refl)
unblocked-is_exact old step (reply.Refused refusal.Deadlock) below never follows exact = λ w agrees. absurd (never_deadlock w step (follows w agrees.engine).0)
unblocked-is_exact old step reply below never follows exact = (exact, refl)

-- Answered Busy.

-- below, the session only goes on
busy-next : (w : World) (step : Step) (o : ℕ) → next w step (reply.Refused (refusal.Busy o)) ≡ by_its_session w (stepped w) (session_of step)
busy-next w step.VacuumStep o = refl
busy-next w _ o = refl

busy-passed : (old : EngineView) (step : Step) (s o : ℕ) (below : EngineView) → session_of step ≡ Some s → EngineFollows old step (reply.Refused (refusal.Busy o)) below
    → (w : World) → EngineAgrees old w → EngineAgrees below (stepped w s)
busy-passed old step s o below is follows w agrees =
    subst (λ t. EngineAgrees below (by_its_session w (stepped w) t)) is (subst (EngineAgrees below) (busy-next w step o) (follows w agrees).1)

-- the session that is told so is open
busy-open : (w : World) (step : Step) (s o : ℕ) → session_of step ≡ Some s → Allows w step (reply.Refused (refusal.Busy o)) → (m : OpenSession) × (w.session s ≡ Some m)
busy-open w step s o is allows =
    let b = blocked_of w step o allows in
    let same : b.session ≡ s = same_Some b.session s (sym b.of ∙ is) in
    (b.model, subst (λ n. w.session n ≡ Some b.model) same b.blocked.writer.ready.there)

some-open : (w : World) (s : ℕ) (m : OpenSession) → w.session s ≡ Some m → IsSome (w.session s)
some-open w s m at = subst (λ o. IsSome o) (sym at) refl

-- and so it has a place
busy-within : (e : WaitingView) (w : World) (step : Step) (s o : ℕ) → session_of step ≡ Some s → WaitingAgrees e w → Allows w step (reply.Refused (refusal.Busy o)) → s < length e.waits
busy-within e w step s o is agrees allows =
    let m = busy-open w step s o is allows in
    let there = open_there e.engine.core w s agrees.engine.core (some-open w s m.0 m.1) in
    let within = open-within e.engine.core.sessions s there.0 there.1 in
    let count = agrees.engine.core.sound.count in
    let places = agrees.count in
    omega (arith, within, count, places)

-- the rings are those of the world
same-ring : (e : WaitingView) (w : World) (s o : ℕ) → WaitingAgrees e w → ClosesRing (wait_in e.waits) s o ≡ ClosesRing w.waits_for s o
same-ring e w s o agrees = ap (λ waits. ClosesRing waits s o) (fun_ext agrees.waits)

-- and leaves the core as it was
busy-stays : (old : EngineView) (step : Step) (s o : ℕ) (below : EngineView) → session_of step ≡ Some s → EngineExact old step (reply.Refused (refusal.Busy o)) below
    → (below.core ≡ old.core) × (below.vacuum ≡ option_map (disturbed true) old.vacuum)
busy-stays old (step.Prune p) s o below is exact = absurd (none-some s is)
busy-stays old (step.ApplyPlan p plan) s o below is exact = absurd (none-some s is)
busy-stays old (step.VacuumBegin mode) s o below is exact = absurd exact
busy-stays old step.VacuumStep s o below is exact = absurd exact
busy-stays old step.VacuumCancel s o below is exact = absurd exact
busy-stays old (step.CreateIndex c) s o below is exact = absurd (none-some s is)
busy-stays old (step.TakePage reader p) s o below is exact = absurd exact.core.0
busy-stays old step s o below is exact = (exact.core, exact.vacuum)

blocked-agrees : (old : WaitingView) (step : Step) (s o : ℕ) (below : EngineView) → session_of step ≡ Some s → EngineFollows old.engine step (reply.Refused (refusal.Busy o)) below
    → (w : World) → WaitingAgrees old w → WaitingAgrees (with_waits below (set old.waits s (Some o))) (blocked_by w s o)
blocked-agrees old step s o below is follows w agrees = record {
  engine = engine-waits below (stepped w s) (blocked_by w s o).waits_for (busy-passed old.engine step s o below is follows w agrees.engine);
  count = length-set old.waits s (Some o) ∙ agrees.count;
  waits = λ t. wait_in-set old.waits s (Some o) (busy-within old w step s o is agrees (follows w agrees.engine).0) t ∙ ap (cond (nat_eq t s) (Some o)) (agrees.waits t);
}

pub blocked-follows : BlockedFollows
blocked-follows old step s o below is free follows exact = (
  λ w agrees. let f = follows w agrees.engine in (
    (f.0, λ t is' ring. free (subst (λ (P : Type 0). P) (sym (same-ring old w s o agrees)) (subst (λ n. ClosesRing w.waits_for n o) (same_Some t s (sym is' ∙ is)) ring))),
    subst (λ t. WaitingAgrees (with_waits below (set old.waits s (Some o))) (by_its_session w (λ s. blocked_by w s o) t)) (sym is) (blocked-agrees old step s o below is follows w agrees),
    f.2,
    f.3,
    tt,
  ),
  (exact, ap (λ t. noted_wait t (Some o) old.waits) (sym is)),
)

failed-agrees : (old : WaitingView) (step : Step) (s o : ℕ) (below : EngineView) → session_of step ≡ Some s → EngineFollows old.engine step (reply.Refused (refusal.Busy o)) below
    → (w : World) → WaitingAgrees old w → WaitingAgrees (with_waits (failed_at below s) (set old.waits s None)) (change w s as_failed)
failed-agrees old step s o below is follows w agrees =
    let m = busy-open w step s o is (follows w agrees.engine).0 in
    let failed = failing-agrees below (stepped w s) s (busy-passed old.engine step s o below is follows w agrees.engine) (some-open w s m.0 m.1) in
    record {
      engine = engine-waits (failed_at below s) (change (stepped w s) s as_failed) (change w s as_failed).waits_for failed.0;
      count = length-set old.waits s None ∙ agrees.count;
      waits = ended-stepped old.waits w agrees.waits s;
    }

pub deadlock-follows : DeadlockFollows
deadlock-follows old step s o below is ring follows exact = (
  λ w agrees. let f = follows w agrees.engine in (
    (s, o, is, f.0, subst (λ (P : Type 0). P) (same-ring old w s o agrees) ring),
    subst (λ t. WaitingAgrees (with_waits (failed_at below s) (set old.waits s None)) (by_its_session w (λ s. change w s as_failed) t)) (sym is) (failed-agrees old step s o below is follows w agrees),
    f.2,
    f.3,
    tt,
  ),
  λ w agrees. let stays = busy-stays old.engine step s o below is exact in
      record { session = s; of = is; core = ap (λ st. with_failed st s) stays.0; vacuum = stays.1; waits = refl },
)

-- A new engine.

length-replicate : {A : Type 0} (n : ℕ) (x : A) → length (replicate n x) ≡ n
length-replicate zero x = refl
length-replicate (suc n) x = ap suc (length-replicate n x)

pub new-is_waiting : NewIsWaiting
new-is_waiting asked e is = record {
  engine = is;
  waits = refl;
  agrees = record { engine = is.agrees; count = length-replicate {A = Option ℕ} 64 None; waits = λ s. nobody_waits 64 s };
}
