use Rattle.std.proofs.Common.{◌≡◌, List, false, subst}
use Rattle.history.specs.History.{Write, written}
use Rattle.plain_history.specs.Covers.{has, IsUnwanted}
use Rattle.plain_cursor.specs.Order.{is_wanted}
use Rattle.plain_history.proofs.Keys.{history-more, none_first}
use Rattle.plain_history.proofs.rows.add_history.Goals as goal

pub loop-transaction-init : goal.loop-transaction-init
loop-transaction-init c = λ key absent. (absent, none_first (is_wanted c.args.bounds c.args.index) c.args.history.now key)

pub loop-transaction-preserved : goal.loop-transaction-preserved
loop-transaction-preserved c =
    history-more (is_wanted c.args.bounds c.args.index) c.loop-transaction.keys.items c.add_writes.new.keys.items c.args.keys.now.items c.args.history.now c.loop-transaction.transaction-index c.transaction-item.result
    c.loop-transaction-test.true c.transaction-item.is c.loop-transaction.invariant
    (λ key absent. subst (λ (ws : List Write). (has c.loop-transaction.keys.items key ≡ false) × IsUnwanted (is_wanted c.args.bounds c.args.index) (written ws key)) c.writes.ensures (c.in_ok-add_writes.ensures key absent))
