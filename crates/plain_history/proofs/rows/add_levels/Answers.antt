use Rattle.std.proofs.Common.{◌≡◌, List, false, subst}
use Rattle.history.specs.History.{Write, written}
use Rattle.plain_history.specs.Covers.{has, IsUnwanted}
use Rattle.plain_cursor.specs.Order.{is_wanted}
use Rattle.plain_history.proofs.Keys.{levels-more}
use Rattle.plain_history.proofs.rows.add_levels.Goals as goal

pub loop-level-preserved : goal.loop-level-preserved
loop-level-preserved c =
    levels-more (is_wanted c.args.bounds c.args.index) c.loop-level.keys.items c.add_writes.new.keys.items c.args.keys.now.items c.args.levels.now c.loop-level.level-index c.level-item.result c.loop-level-test.true
    c.level-item.is c.loop-level.invariant
    (λ key absent. subst (λ (ws : List Write). (has c.loop-level.keys.items key ≡ false) × IsUnwanted (is_wanted c.args.bounds c.args.index) (written ws key)) c.writes.ensures (c.in_ok-add_writes.ensures key absent))
