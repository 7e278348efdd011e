use Rattle.plain_cursor.specs.Order.{is_wanted}
use Rattle.plain_history.proofs.Keys.{writes-more}
use Rattle.plain_history.proofs.rows.add_writes.Goals as goal

pub loop-write-preserved : goal.loop-write-preserved
loop-write-preserved c =
    writes-more (is_wanted c.args.bounds c.args.index) c.loop-write.keys.items c.add_write.new.keys.items c.args.keys.now.items c.args.writes.now c.loop-write.write-index c.write-item.result c.loop-write-test.true
    c.write-item.is c.loop-write.invariant c.in_ok-add_write.ensures
