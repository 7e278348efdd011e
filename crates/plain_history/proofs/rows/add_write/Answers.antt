use Rattle.std.proofs.Common.{◌≡◌, List, ℕ, false, subst}
use Rattle.plain_cursor.specs.Order.{is_wanted}
use Rattle.plain_history.specs.Covers.{has}
use Rattle.plain_history.proofs.Keys.{said_skipped, said_pushed}
use Rattle.plain_history.proofs.rows.add_write.Goals as goal

pub returns-then-not-may_be_wanted : goal.returns-then-not-may_be_wanted
returns-then-not-may_be_wanted c = λ key absent.
    (absent, said_skipped (is_wanted c.args.bounds c.args.index) c.args.write.now c.may_be_wanted.result key c.may_be_wanted.ensures c.if-not-may_be_wanted.true)

pub returns : goal.returns
returns c = λ key absent.
    said_pushed (is_wanted c.args.bounds c.args.index) c.args.keys.now.items c.key.result c.args.write.now c.key.ensures key (subst (λ (l : List ℕ). has l key ≡ false) c.in_ok-push.ensures.items absent)
