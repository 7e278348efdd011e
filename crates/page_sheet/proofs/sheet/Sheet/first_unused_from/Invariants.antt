use Rattle.std.proofs.Common.{◌≤◌}
use Rattle.std.specs.List.{position_or_len}
use Rattle.page_sheet.specs.Slots.{is_unused}
use Rattle.page_sheet.specs.Layout.{slots_in}
use Rattle.page_sheet.proofs.sheet.Sheet.first_unused_from.Given as goal

abbrev pub invariant-loop-index : goal.invariant-loop-index
invariant-loop-index l = l.index ≤ position_or_len is_unused (slots_in l.self.count l.self.bytes)
