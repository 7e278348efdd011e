use Rattle.std.proofs.Common.{◌∙◌, sym, arith}
use Rattle.dead_places.proofs.PlaceLemmas.{looked_less, looked_greater}
use Rattle.dead_places.proofs.dead_set.search.Goals as goal

pub loop-low-preserved-in-Less : goal.loop-low-preserved-in-Less
loop-low-preserved-in-Less c =
    looked_less c.args.tids.now c.args.sought.now _ c.loop-low.low c.loop-low.high _ c.requires c.loop-low.invariant
    (let some = c.loop-low-test.true in omega arith)
    (sym c.compare_places.ensures ∙ c.in-Less.is)

pub loop-low-preserved : goal.loop-low-preserved
loop-low-preserved c =
    looked_greater c.args.tids.now c.args.sought.now _ c.loop-low.low c.loop-low.high _ c.requires c.loop-low.invariant
    (omega arith)
    (let some = c.loop-low-test.true in omega arith)
    (sym c.compare_places.ensures ∙ c.in-Greater.is)
