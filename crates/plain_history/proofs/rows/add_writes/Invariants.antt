use Rattle.std.proofs.Common.{◌≡◌, ℕ, take, false}
use Rattle.history.specs.History.{written}
use Rattle.plain_cursor.specs.Order.{is_wanted}
use Rattle.plain_history.specs.Covers.{has, IsUnwanted}
use Rattle.plain_history.proofs.rows.add_writes.Given as goal

abbrev pub invariant-loop-write : goal.invariant-loop-write
invariant-loop-write l = (key : ℕ) → has l.keys.items key ≡ false → (has l.fn.keys.items key ≡ false) × IsUnwanted (is_wanted l.bounds l.index) (written (take l.write-index l.writes) key)
