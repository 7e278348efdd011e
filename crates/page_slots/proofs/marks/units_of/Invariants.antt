use Rattle.std.proofs.Common.{◌≡◌, ◌*◌, sum_by, take}
use Rattle.page_sheet.specs.Slots.{bytes_taken}
use Rattle.page_sheet.specs.Layout.{slots_in}
use Rattle.page_layout.specs.Units.{units_marked}
use Rattle.page_slots.specs.Marking.{IsCovered}
use Rattle.page_slots.proofs.marks.units_of.Given as goal

abbrev pub invariant-loop-index : goal.invariant-loop-index
invariant-loop-index l =
    IsCovered l.bytes l.index l.marks × (l.units ≡ units_marked l.marks) × (8 * l.units ≡ sum_by bytes_taken (take l.index (slots_in l.count l.bytes)))
