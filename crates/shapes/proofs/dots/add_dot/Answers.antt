use Rattle.shapes.proofs.DotLemmas.{dot-added}
use Rattle.shapes.proofs.dots.add_dot.Goals as goal

pub returns-in_ok-push-in-Ok-Some : goal.returns-in_ok-push-in-Ok-Some
returns-in_ok-push-in-Ok-Some c = λ t there.
    let told = rw c.in-Ok-Some.field-0-is at c.in-Ok-Some.ensures in
    dot-added c.args.engine.now.engine.core c.args.place t c.args.s told.0 c.in-Ok-Some.shown c.shows.result c.args.shapes.now.items c.push.new.self.items
    told.1 there told.2 c.shows.ensures c.in_ok-push-in-Ok-Some.ensures.items
