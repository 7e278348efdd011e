use Rattle.std.proofs.Common.{◌≡◌, ℕ, take, false}
use Rattle.history.specs.History.{written}
use Rattle.history.specs.World.{joined}
use Rattle.plain_cursor.specs.Order.{is_wanted}
use Rattle.plain_history.specs.Covers.{has, IsUnwanted}
use Rattle.plain_history.proofs.rows.add_levels.Given as goal

abbrev pub invariant-loop-level : goal.invariant-loop-level
invariant-loop-level l = (key : ℕ) → has l.keys.items key ≡ false → (has l.fn.keys.items key ≡ false) × IsUnwanted (is_wanted l.bounds l.index) (written (joined (take l.level-index l.levels)) key)
