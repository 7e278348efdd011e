use Rattle.std.proofs.Common.{◌≡◌, take}
use Rattle.judge.proofs.due.copy_all.Given as goal

-- the copies so far
abbrev pub invariant-loop-row : goal.invariant-loop-row
invariant-loop-row l = l.copies.items ≡ take l.row-index l.rows
