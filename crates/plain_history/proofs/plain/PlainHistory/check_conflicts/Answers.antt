use Rattle.std.proofs.Common.{◌≡◌, ◌∙◌, sym, ap, subst, List, Option, ℕ, Some, true, false}
use Rattle.std.specs.Prelude.{IsSome}
use Rattle.plain_history.specs.declared.plain.PlainSession.{PlainSession}
use Rattle.history.specs.History.{Transaction, IsLate}
use Rattle.history.specs.World.{OpenSession, own_write, start_now, ClosesRing}
use Rattle.plain_history.specs.Plain.{Plain, open_of, session_in}
use Rattle.waits.specs.View.{wait_in}
use Rattle.plain_history.proofs.plain.PlainHistory.check_conflicts.Goals as goal

pub returns-then-is_late-clause-err : goal.returns-then-is_late-clause-err
returns-then-is_late-clause-err c =
    subst (λ (h : List Transaction). IsLate h (start_now h (open_of c.args.session.now)) c.args.key) (ap (λ (p : Plain). p.history) c.self.view_is) (c.is_late.ensures.0 c.if-is_late.true)

pub returns-then-closes_ring-clause-err : goal.returns-then-closes_ring-clause-err
returns-then-closes_ring-clause-err c = (
  c.in-Some.o,
  record {
    writer = c.requires;
    in_time = λ late. absurd (let yes : c.is_late.result ≡ true =
        c.is_late.ensures.1 (subst (λ (h : List Transaction). IsLate h (start_now h (open_of c.args.session.now)) c.args.key) (sym (ap (λ (p : Plain). p.history) c.self.view_is)) late)
        in let never : false ≡ true = sym c.if-is_late.false ∙ yes in cc);
    other = c.in-Some.ensures.0;
    held = subst (λ (l : List (Option PlainSession)). (m : OpenSession) × (session_in l c.in-Some.o ≡ Some m) × IsSome (own_write m c.args.key))
        (c.deref.ensures.value ∙ ap (λ (p : Plain). p.sessions) c.self.view_is) c.in-Some.ensures.1;
  },
  subst (λ (l : List (Option ℕ)). ClosesRing (wait_in l) c.args.s c.in-Some.o) (c.deref-in-Some.ensures.value ∙ ap (λ (p : Plain). p.waits) c.self.view_is) (c.closes_ring.ensures.0 c.if-closes_ring.true),
)
