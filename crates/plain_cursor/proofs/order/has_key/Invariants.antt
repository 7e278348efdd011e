use Rattle.std.proofs.Common.{◌≡◌, drop}
use Rattle.plain_cursor.specs.Order.{row_of_key}
use Rattle.plain_cursor.proofs.order.has_key.Given as goal

abbrev pub invariant-loop-row : goal.invariant-loop-row
invariant-loop-row l = row_of_key l.rows l.key ≡ row_of_key (drop l.row-index l.rows) l.key
