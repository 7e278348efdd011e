use Rattle.std.proofs.Common.{◌∙◌, ◌++◌, sym, ap}
use Rattle.plain_history.proofs.Lists.{joined-take}
use Rattle.plain_history.proofs.lookup.joined_levels.Goals as goal

pub loop-level-preserved : goal.loop-level-preserved
loop-level-preserved c =
    c.in_ok-extend-2.ensures
    ∙ (ap (λ ws. ws ++ c.loop-level.all) (c.in_ok-extend.ensures ∙ ap (λ ws. ws ++ c.level-item.result) c.new-longer.ensures)
    ∙ (ap (λ ws. c.level-item.result ++ ws) c.loop-level.invariant
    ∙ sym (joined-take c.args.levels.now c.loop-level.level-index c.level-item.result c.loop-level-test.true c.level-item.is)))
