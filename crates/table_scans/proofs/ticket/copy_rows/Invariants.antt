use Rattle.std.proofs.Common.{◌≡◌, ◌≤◌, length, take, vec_len, vec_capacity}
use Rattle.table_scans.specs.Tickets.{rows_at}
use Rattle.table_scans.proofs.ticket.copy_rows.Given as goal

-- the rows of the slots so far are copied, and each slot that is left has its place
abbrev pub invariant-loop-number : goal.invariant-loop-number
invariant-loop-number l = (l.room.items ≡ rows_at l.page.slots (take l.number-index l.numbers)) × (vec_len l.room ≤ l.number-index) × (length l.numbers ≤ vec_capacity l.room)
