use Rattle.std.proofs.Common.{◌≡◌, ℕ, false}
use Rattle.plain_cursor.specs.Order.{is_wanted}
use Rattle.plain_history.specs.Covers.{has, AreUnwanted}
use Rattle.plain_history.proofs.rows.add_history.Given as goal

abbrev pub invariant-loop-transaction : goal.invariant-loop-transaction
invariant-loop-transaction l = (key : ℕ) → has l.keys.items key ≡ false → (has l.fn.keys.items key ≡ false) × AreUnwanted (is_wanted l.bounds l.index) l.history l.transaction-index key
