use Rattle.std.proofs.Common.{◌≡◌, ◌∙◌, true, false, Some, set, refl, sym, ap, subst, inl, inr}
use Rattle.history.specs.World.{ClosesRing}
use Rattle.waits.specs.View.{wait_in}
use Rattle.session_core.specs.State.{WaitingView, with_waits}
use Rattle.session_core.proofs.engine.Engine.wait_for.Goals as goal

pub returns-then-closes_ring : goal.returns-then-closes_ring
returns-then-closes_ring c =
    let ring = subst (λ (e : WaitingView). ClosesRing (wait_in e.waits) c.args.s c.args.o) c.self.view_is (c.closes_ring.ensures.0 c.if-closes_ring.true) in
    inr (record { ring = ring; told = refl; is = c.fail.ensures })

pub returns : goal.returns
returns c =
    let o = c.args.o in
    let begins = ap (with_waits (record { core = c.self.inside.core; vacuum = c.self.inside.vacuum })) c.begin.ensures ∙ ap (λ (e : WaitingView). with_waits e.engine (set e.waits c.args.s (Some o))) c.self.view_is in
    inl (record {
      free = λ ring. let no : false ≡ true = sym c.if-closes_ring.false ∙ c.closes_ring.ensures.1 (subst (λ (e : WaitingView). ClosesRing (wait_in e.waits) c.args.s o) (sym c.self.view_is) ring) in absurd cc;
      told = refl;
      is = begins;
    })
