use Rattle.std.proofs.Common.{arith, refl}
use Rattle.session_steps.specs.State.{session_at}
use Rattle.shapes.specs.Shapes.{IsDotPiece, version_of_place}
use Rattle.shapes.proofs.Adding.{one-more}
use Rattle.shapes.proofs.DotLemmas.{dots-beside}
use Rattle.shapes.proofs.dots.add_dots.Goals as goal

pub loop-s-preserved : goal.loop-s-preserved
loop-s-preserved c = λ t there.
    one-more (λ s. IsDotPiece c.args.engine.now.engine.core c.args.place t s (session_at c.args.engine.now.engine.core s)) c.loop-s.s c.args.shapes.now.items
    c.loop-s.shapes.items c.add_dot.new.shapes.items (c.loop-s.invariant t there) (c.in_ok-add_dot.ensures t there)

pub returns : goal.returns
returns c =
    dots-beside c.args.engine.now.engine.core c.args.place (version_of_place c.args.engine.now.engine.core c.args.place) c.loop-s.s c.args.shapes.now.items c.loop-s.shapes.items
    refl (c.holds_version.ensures.0 c.if-not-holds_version.false) (omega (arith, c.loop-s-test.false, c.loop-s.auto.s-end)) c.loop-s.invariant
