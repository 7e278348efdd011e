use Rattle.std.proofs.Common.{refl, sym, subst, arith}
use Rattle.xid_circle.specs.Circle.{Precedes}
use Rattle.snapshot.proofs.Marks.{nowhere}
use Rattle.sessions.proofs.OwnFrom.{none-more}
use Rattle.sessions.proofs.searches.are_from.Goals as goal

pub loop-x-init : goal.loop-x-init
loop-x-init c k lt early = absurd (omega (arith, lt))

pub loop-x-preserved : goal.loop-x-preserved
loop-x-preserved c =
    none-more c.args.ids.now (λ y. Precedes y c.args.cutoff.0) c.loop-x.x-index c.loop-x.invariant (λ early. let t = c.precedes.ensures.1 early in let f = c.if-precedes.false in cc)

pub returns : goal.returns
returns c = (
  λ t x mine early. nowhere c.args.ids.now x (λ k lt is. c.loop-x.invariant k (let past = c.loop-x-test.false in omega (arith, lt, past)) (subst (λ y. Precedes y c.args.cutoff.0) (sym is) early)) mine,
  λ u. refl,
)
