use Rattle.std.proofs.Common.{◌≡◌, ◌≤◌, ◌<◌, ℕ, true}
use Rattle.std.specs.Prelude.{slice_index_or}
use Rattle.page_sheet.specs.declared.slot.Slot.TheVariants.{Unused}
use Rattle.page_sheet.specs.Layout.{slots_in}
use Rattle.page_sheet.specs.Slots.{is_undeleted_by}
use Rattle.page_sheet.proofs.sheet.Sheet.last_unlike.Given as goal

abbrev pub invariant-loop-left : goal.invariant-loop-left
invariant-loop-left l =
    (l.left ≤ l.fn.count)
    × ((i : ℕ) → l.left ≤ i → i < l.fn.count → is_undeleted_by l.fn.inserter.0 (slice_index_or (slots_in l.self.count l.self.bytes) i Unused) ≡ true)

abbrev pub decreases-loop-left : goal.decreases-loop-left
decreases-loop-left l = l.left
