use Rattle.std.proofs.Common.{ℕ, ◌<◌}
use Rattle.page_sheet.specs.Slots.{slot_at}
use Rattle.side_by_side.specs.Noted.{KeepsNote}
use Rattle.side_by_side.proofs.look.all_keep_note.Given as goal

abbrev pub invariant-loop-number : goal.invariant-loop-number
invariant-loop-number l = (n : ℕ) → n < l.number → KeepsNote l.is_frozen (slot_at l.page.slots n)
