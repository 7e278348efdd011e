-- The slots of a page after a write.
use Rattle.std.specs.Prelude.{◌≡◌, ℕ, Bool, true, List}
use Rattle.xid_circle.specs.Numbers.{Id, PageNo, SlotNo, Count}
use Rattle.xid_circle.specs.declared.Tid.{Tid}
use Rattle.page_sheet.specs.declared.slot.Slot.{Slot}
use Rattle.page_sheet.specs.declared.slot.Slot.TheVariants.{Normal}
use Rattle.page_slots.specs.View.{PageView}
use Rattle.page_sheet.specs.Slots.{the_slot, with_slot, with_added, free_number, change_unless}
use Rattle.tuple_header.specs.Hints.{same_but_hints}
use Rattle.tuple_header.specs.declared.version.Row.{Row}
use Rattle.tuple_writes.specs.Headers.{replaced_header, root_header, heap_only_header}

abbrev pub replaced_slot : ℕ → ℕ → ℕ → Bool → Slot → Slot
replaced_slot x page place hot (Normal t) = Normal (record t { header = replaced_header t.header x page place hot })
replaced_slot x page place hot slot = slot

-- whether that changes hints alone, as where an aborted id takes the same version away again
abbrev pub was_replaced : ℕ → ℕ → ℕ → Bool → Slot → Bool
was_replaced x page place hot (Normal t) = same_but_hints t.header (replaced_header t.header x page place hot)
was_replaced x page place hot slot = true

-- the change number afterwards
abbrev pub replaced_change : List Slot → SlotNo → (x : Id) → PageNo → (place : SlotNo) → (hot : Bool) → (change : Count) → Count
replaced_change slots n x page place hot change = change_unless (was_replaced x page place hot (the_slot slots n)) change

-- the version in slot n was taken away by x, and its successor is at this place
abbrev pub with_replaced : List Slot → SlotNo → (x : Id) → PageNo → (place : SlotNo) → (hot : Bool) → List Slot
with_replaced slots n x page place hot = with_slot slots n (replaced_slot x page place hot (the_slot slots n))

-- x made a version of the row at the free number of this page, as a root
abbrev pub with_root : List Slot → Bool → ℕ → ℕ → Row → List Slot
with_root slots updated x page row = with_added slots (Normal (record { header = root_header updated x page (free_number slots); row = row }))

-- the same, heap-only
abbrev pub with_heap_only : List Slot → ℕ → ℕ → Row → List Slot
with_heap_only slots x page row = with_added slots (Normal (record { header = heap_only_header x page (free_number slots); row = row }))

-- x updated the version in slot n by one of this row on the same page, by a HOT update
abbrev pub with_updated : List Slot → SlotNo → (x : Id) → PageNo → Row → List Slot
with_updated slots n x page row = with_replaced (with_heap_only slots x page row) n x page (free_number slots) true

-- The page after a write.

-- x took the version in slot n away, and its successor is at this place, by a HOT update or not; nothing else changed
pub record PutsXmax (page page' : PageView) (n : SlotNo) (x : Id) (successor : Tid) (hot : Bool) : Type 0 where
  pub slots : page'.slots ≡ with_replaced page.slots n x successor.page successor.slot hot
  pub change : page'.change ≡ replaced_change page.slots n x successor.page successor.slot hot page.change
  pub flag : page'.flag ≡ page.flag

-- a version has come: the page has these slots and this change number now
pub record AddsToPage (page page' : PageView) (now : List Slot) (count : Count) : Type 0 where
  pub slots : page'.slots ≡ now
  pub change : page'.change ≡ count
  pub flag : page'.flag ≡ page.flag
