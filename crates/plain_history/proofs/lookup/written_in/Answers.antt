use Rattle.std.proofs.Common.{◌∙◌, ◌+◌, sym, drop}
use Rattle.history.specs.History.{written}
use Rattle.history.specs.World.{joined}
use Rattle.plain_history.proofs.Lists.{joined-drop, said_first, said_after}
use Rattle.plain_history.proofs.lookup.written_in.Goals as goal

pub returns-in-Some-clause-value : goal.returns-in-Some-clause-value
returns-in-Some-clause-value c =
    let here = joined-drop c.args.levels.now c.loop-level.level-index c.level-item.result c.args.key c.loop-level-test.true c.level-item.is in
    said_first c.last_write.result (written c.level-item.result c.args.key) (written (joined (drop (c.loop-level.level-index + 1) c.args.levels.now)) c.args.key) c.in-Some.said c.in-Some.is c.last_write.ensures.value
    ∙ (sym here ∙ sym c.loop-level.invariant)

pub loop-level-preserved : goal.loop-level-preserved
loop-level-preserved c =
    let here = joined-drop c.args.levels.now c.loop-level.level-index c.level-item.result c.args.key c.loop-level-test.true c.level-item.is in
    c.loop-level.invariant ∙ (here ∙ said_after c.last_write.result (written c.level-item.result c.args.key) (written (joined (drop (c.loop-level.level-index + 1) c.args.levels.now)) c.args.key) c.in_default.is c.last_write.ensures.value)
