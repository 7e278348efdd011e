use Rattle.std.proofs.Common.{List, length, refl, subst}
use Rattle.history.specs.History.{Write, Transaction, written}
use Rattle.history.specs.World.{joined}
use Rattle.plain_cursor.specs.Order.{is_wanted}
use Rattle.plain_history.specs.Plain.{open_of}
use Rattle.plain_history.specs.Covers.{IsUnwanted, AreUnwanted}
use Rattle.plain_history.proofs.Keys.{view-none}
use Rattle.plain_history.proofs.rows.keys_of.Goals as goal

pub returns : goal.returns
returns c = λ key absent.
    let by_newest = c.in_ok-add_writes.ensures key absent in
    let by_older = c.in_ok-add_levels.ensures key by_newest.0 in
    let by_history = c.in_ok-add_history.ensures key by_older.0 in
    view-none (is_wanted c.args.bounds c.args.index) c.args.history.now (open_of c.args.session.now) (joined c.args.session.now.older.items) c.args.session.now.newest key refl
    (subst (λ (h : List Transaction). AreUnwanted (is_wanted c.args.bounds c.args.index) h (length h) key) c.transactions.ensures by_history.1)
    (subst (λ (ls : List (List Write)). IsUnwanted (is_wanted c.args.bounds c.args.index) (written (joined ls) key)) c.deref.ensures.value by_older.1)
    (subst (λ (ws : List Write). IsUnwanted (is_wanted c.args.bounds c.args.index) (written ws key)) c.writes.ensures by_newest.1)
