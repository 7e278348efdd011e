use Rattle.std.proofs.lemmas.Option.{slice_get-get_or}
use Rattle.shapes.specs.Shapes.{IsAskedPage}
use Rattle.shapes.proofs.Adding.{one-further, asked-page}
use Rattle.shapes.proofs.making.add_pages.Goals as goal

pub loop-number-preserved : goal.loop-number-preserved
loop-number-preserved c =
    one-further (λ e. IsAskedPage e.engine.core c.args.numbers.now) c.args.engine.now c.loop-number.engine c.add_page.new.engine c.loop-number.number-index c.args.shapes.now.items
    c.loop-number.shapes.items c.add_page.new.shapes.items c.loop-number.invariant c.in_ok-add_page.ensures.same
    (asked-page c.loop-number.engine.engine.core c.args.numbers.now c.loop-number.number-index _ c.loop-number.shapes.items c.add_page.new.shapes.items (slice_get-get_or c.args.numbers.now c.loop-number.number-index 0 c.loop-number-test.true) c.in_ok-add_page.ensures.page)
