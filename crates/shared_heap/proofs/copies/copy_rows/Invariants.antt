use Rattle.std.proofs.Common.{◌≡◌, ◌≤◌, length, take, vec_len, vec_capacity}
use Rattle.shared_heap.proofs.copies.copy_rows.Given as goal

-- the rows so far are copied, and each that is left has its place
abbrev pub invariant-loop-row : goal.invariant-loop-row
invariant-loop-row l = (l.room.items ≡ take l.row-index l.rows) × (vec_len l.room ≡ l.row-index) × (length l.rows ≤ vec_capacity l.room)
