-- What a vacuum does to a table, beside pruning: to pages, their marks and indexes, and to the ids that are remembered. (The manual's
-- "Routine Vacuuming"; src/backend/access/heap/vacuumlazy.c: versions are frozen, entries that lead to dead slots go, and then these slots
-- become unused.)
use Rattle.std.specs.Prelude.{◌≡◌, ◌≢◌, ◌↔◌, ℕ, List, length, Option, Some, slice_get, slice_set, Contains}
use Rattle.xid_circle.specs.Numbers.{Id, PageNo, SlotNo}
use Rattle.xid_circle.specs.declared.Tid.{Tid}
use Rattle.page_sheet.specs.declared.slot.Slot.{Slot}
use Rattle.page_sheet.specs.declared.slot.Slot.TheVariants.{Unused, Dead}
use Rattle.page_sheet.specs.Slots.{slot_at}
use Rattle.page_slots.specs.View.{PageView}
use Rattle.commit_status.specs.Changes.{Truncates}
use Rattle.prune.specs.Actions.{raised}
use Rattle.space_maps.specs.declared.mark.Mark.{Mark}
use Rattle.space_maps.specs.View.{says_visible}
use Rattle.freeze.specs.Freezing.{FreezesPage}
use Rattle.freeze.specs.AllVisible.{IsPageMark}
use Rattle.freeze.specs.DeadSlots.{ListsDead}
use Rattle.index_entries.specs.declared.entry.Entry.{Entry}
use Rattle.root_index.specs.declared.progress.Progress.{Progress}
use Rattle.root_index.specs.Pieces.{RemovesPiece}
use Rattle.table_indexes.specs.Indexes.{entries_at, since_at, since_after, entries_in, IsInUse}
use Rattle.heap_write.specs.Heap.{HeapView, ChangesOnePage}
use Rattle.heap_write.specs.Writes.{Prunes}

-- Pages.

-- one page is frozen at a cutoff, and nothing else changes
abbrev pub FreezesAt : HeapView → HeapView → (p cutoff : ℕ) → Type 0
FreezesAt h h' p cutoff = ChangesOnePage h h' p (λ before after. FreezesPage h.statuses cutoff p before after)

-- the exact mark of one page at a horizon is noted in the map, and in the page's flag; nothing else changes
pub record Notes (h h' : HeapView) (p horizon : ℕ) : Type 0 where
  pub page : PageView
  pub at : slice_get h.pages.pages p ≡ Some page
  pub mark : Mark
  pub exact : IsPageMark h.statuses horizon page.slots mark
  pub is : h' ≡ record h {
    pages = record h.pages {
      pages = slice_set h.pages.pages p (record page { flag = says_visible mark });
      marks = slice_set h.pages.marks p mark;
    };
  }

-- it is frozen, and then its exact mark is noted; these are its dead slots
pub record FreezesAndNotes (h h' : HeapView) (p : PageNo) (cutoff horizon : Id) (dead : List SlotNo) : Type 0 where
  pub frozen : HeapView
  pub freezes : FreezesAt h frozen p cutoff
  pub notes : Notes frozen h' p horizon
  pub lists : ListsDead notes.page.slots dead

-- it is pruned at a horizon before
pub record PrunesAndFreezes (h h' : HeapView) (p : PageNo) (cutoff horizon : Id) (dead : List SlotNo) : Type 0 where
  pub pruned : HeapView
  pub prunes : Prunes h pruned p horizon
  pub freezes : FreezesAndNotes pruned h' p cutoff horizon dead

-- Indexes.

-- a piece of index i that begins after an entry is gone through; nothing else changes
pub record SweepsAt (h h' : HeapView) (i : ℕ) (dead : List Tid) (from : Option Entry)
    (progress : Progress) : Type 0 where
  pub removes : RemovesPiece (entries_in h.indexes i) (entries_in h'.indexes i) dead from progress
  pub others : (n : ℕ) → n ≢ i → entries_at h'.indexes n ≡ entries_at h.indexes n
  pub in_use : (n : ℕ) → IsInUse h.indexes n ↔ IsInUse h'.indexes n
  pub since : (n : ℕ) → since_at h'.indexes n ≡ since_at h.indexes n
  pub is : h' ≡ record h { indexes = h'.indexes }

-- Slots become unused.

-- of these slots, those that are dead become unused, and no other slot changes
pub record FreesSlots (slots after : List Slot) (numbers : List ℕ) : Type 0 where
  pub count : length after ≡ length slots
  pub freed : (n : ℕ) → Contains numbers n → slot_at slots n ≡ Some Dead
      → slot_at after n ≡ Some Unused
  pub others : (n : ℕ) → (Contains numbers n → slot_at slots n ≢ Some Dead)
      → slot_at after n ≡ slot_at slots n

-- Collected slots of a page become unused. Each is dead, so each raises the change number.
pub record FreesOnPage (before after : PageView) (numbers : List ℕ) : Type 0 where
  pub slots : FreesSlots before.slots after.slots numbers
  pub change : ((n : ℕ) → Contains numbers n → slot_at before.slots n ≡ Some Dead)
      → after.change ≡ raised (length numbers) before.change
  pub flag : after.flag ≡ before.flag

abbrev pub FreesAt : HeapView → HeapView → (p : ℕ) → List ℕ → Type 0
FreesAt h h' p numbers = ChangesOnePage h h' p (λ before after. FreesOnPage before after numbers)

-- Ids.

-- ids before the cutoff are forgotten, an index that was exact from an earlier one on is exact from the cutoff on, and nothing else changes
pub record ForgetsBefore (h h' : HeapView) (cutoff : ℕ) : Type 0 where
  pub is : h' ≡ record h { statuses = h'.statuses; indexes = h'.indexes }
  pub truncates : Truncates h.statuses h'.statuses cutoff
  pub entries : (n : ℕ) → entries_at h'.indexes n ≡ entries_at h.indexes n
  pub since : (n : ℕ) → since_at h'.indexes n ≡ since_after cutoff (since_at h.indexes n)
