use Rattle.std.proofs.Common.{◌≡◌, ◌≤◌, ◌<◌, ℕ, true}
use Rattle.std.specs.Prelude.{slice_index_or}
use Rattle.page_sheet.specs.declared.slot.Slot.TheVariants.{Unused}
use Rattle.page_sheet.specs.Layout.{slots_in}
use Rattle.page_sheet.specs.Slots.{is_undeleted_by}
use Rattle.page_sheet.proofs.sheet.Sheet.next_unlike.Given as goal

abbrev pub invariant-loop-place : goal.invariant-loop-place
invariant-loop-place l =
    (i : ℕ) → l.fn.from ≤ i → i < l.place → is_undeleted_by l.fn.inserter.0 (slice_index_or (slots_in l.self.count l.self.bytes) i Unused) ≡ true
