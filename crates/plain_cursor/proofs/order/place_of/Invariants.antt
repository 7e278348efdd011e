use Rattle.std.proofs.Common.{◌≡◌, ◌++◌, take, drop}
use Rattle.plain_cursor.specs.Order.{placed}
use Rattle.plain_cursor.proofs.order.place_of.Given as goal

abbrev pub invariant-loop-i : goal.invariant-loop-i
invariant-loop-i l = placed l.index l.row l.rows ≡ take l.i l.rows ++ placed l.index l.row (drop l.i l.rows)
