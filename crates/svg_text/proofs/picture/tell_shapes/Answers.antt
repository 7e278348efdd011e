use Rattle.std.proofs.Common.{length, refl}
use Rattle.std.proofs.lemmas.Option.{slice_get_read}
use Rattle.svg_text.proofs.ZipLemmas.{zip-more, zip-all}
use Rattle.svg_text.proofs.picture.tell_shapes.Goals as goal

pub loop-i-preserved : goal.loop-i-preserved
loop-i-preserved c =
    zip-more c.args.layout.now c.args.spots.now c.args.shapes.now c.loop-i.i c.spot_at-spot.result c.index-shapes-i.result c.args.out.now.items c.loop-i.out.items c.tell_shape.new.out.items
    c.spot_at-spot.ensures (slice_get_read c.args.shapes.now (length c.args.shapes.now) c.loop-i.i _ refl c.loop-i-test.true c.index-shapes-i.is) c.loop-i.invariant c.in_ok-tell_shape.ensures

pub returns : goal.returns
returns c = zip-all c.args.layout.now c.args.spots.now c.args.shapes.now c.loop-i.i c.args.out.now.items c.loop-i.out.items c.loop-i-test.false c.loop-i.invariant
