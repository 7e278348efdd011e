use Rattle.std.proofs.Common.{◌≡◌, ℕ, ◌<◌, Some, slice_get}
use Rattle.tuple_header.specs.declared.version.Row.{Row}
use Rattle.plain_cursor.specs.Order.{row_of_key}
use Rattle.judge.proofs.handing.are_all_of.Given as goal

abbrev pub invariant-loop-i : goal.invariant-loop-i
invariant-loop-i l = (k : ℕ) (r : Row) → k < l.i → slice_get l.rows k ≡ Some r → row_of_key l.rest r.key ≡ Some r
