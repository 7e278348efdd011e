use Rattle.std.proofs.Common.{◌≡◌, drop}
use Rattle.plain_cursor.specs.Order.{row_of_key}
use Rattle.judge.proofs.handing.is_of.Given as goal

abbrev pub invariant-loop-other : goal.invariant-loop-other
invariant-loop-other l = row_of_key l.rest l.row.key ≡ row_of_key (drop l.other-index l.rest) l.row.key
