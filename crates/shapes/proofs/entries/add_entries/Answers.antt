use Rattle.std.proofs.Common.{◌≡◌}
use Rattle.shapes.specs.Shapes.{entry_shapes}
use Rattle.shapes.proofs.Adding.{one-more, adds-list}
use Rattle.shapes.proofs.entries.add_entries.Goals as goal

pub loop-number-preserved : goal.loop-number-preserved
loop-number-preserved c =
    one-more (λ i entries. entries ≡ entry_shapes c.args.engine.now.engine.core c.args.page i) c.loop-number.number _ _ _ c.loop-number.invariant
    (adds-list (entry_shapes c.args.engine.now.engine.core c.args.page c.loop-number.number) _ _ c.in_ok-add_index.ensures)
