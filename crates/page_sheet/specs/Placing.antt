-- Where the versions of a page lie, and which of them a call moves.
use Rattle.std.specs.Prelude.{◌≡◌, ◌≢◌, ℕ, zero, suc, ◌+◌, ◌-◌, ◌*◌, ◌≤◌, ◌==◌, ◌&&◌, Bool, not, List, [], map, length, take, sum_by, Option, Some, None, slice_set, slice_index_or, if◌then◌else◌}
use Rattle.std.specs.List.{range_with_len}
use Rattle.xid_circle.specs.Numbers.{Count, SlotNo}
use Rattle.page_layout.specs.declared.pointer.Pointer.{Pointer}
use Rattle.page_layout.specs.declared.sizes.TheConstants.{PAGE_BYTES, PAGE_HEADER_BYTES}
use Rattle.page_layout.specs.Layout.{pointer_in, upper_in}
use Rattle.page_sheet.specs.declared.slot.Slot.{Slot}
use Rattle.page_sheet.specs.Slots.{has_unused, bytes_taken}
use Rattle.page_sheet.specs.Sheet.{SheetView}

pub record VersionPlaces : Type 0 where
  -- where the version in each slot begins, if it holds one
  pub starts : List (Option ℕ)
  -- pd_upper: no version begins below
  pub upper : ℕ

-- those of a page with no slot
abbrev pub no_places : VersionPlaces
no_places = record { starts = []; upper = PAGE_BYTES }

-- The places that the bytes say.

abbrev pub pointer_start : Pointer → Option ℕ
pointer_start Pointer.Unused = None
pointer_start (Pointer.Normal e) = Some e.from
pointer_start (Pointer.Redirect target) = None
pointer_start Pointer.Dead = None

unfoldable pub start_in : List ℕ → ℕ → Option ℕ
start_in bytes i = pointer_start (pointer_in bytes i)

-- those of the first so many slots
abbrev pub places_in : Count → List ℕ → VersionPlaces
places_in count bytes = record { starts = map (start_in bytes) (range_with_len 0 count); upper = upper_in bytes }

abbrev pub places_of : SheetView → VersionPlaces
places_of s = places_in s.count s.bytes

-- What a call moves.

-- where the version in the slot of this number begins, if it is there and normal
abbrev pub start_at : VersionPlaces → ℕ → Option ℕ
start_at places zero = None
start_at places (suc i) = slice_index_or places.starts i None

-- no version is moved but that of this slot
abbrev pub OthersStay : VersionPlaces → VersionPlaces → SlotNo → Type 0
OthersStay old new n = (k : ℕ) → k ≢ n → start_at new k ≡ start_at old k

-- the versions of all slots but this one lie one behind the other, from the end of the page downward, in the order of their slots
abbrev pub OthersLieInOrder : List Slot → VersionPlaces → SlotNo → Type 0
OthersLieInOrder slots places n =
    (k from : ℕ) → k ≢ n → start_at places k ≡ Some from → from + sum_by bytes_taken (take k slots) ≡ PAGE_BYTES

-- the gap between so many pointers and the versions has so many bytes
abbrev pub HasGap : Count → (upper bytes : ℕ) → Type 0
HasGap count upper bytes = PAGE_HEADER_BYTES + 4 * count + bytes ≤ upper

-- what a version of this size asks of the gap: where no slot is unused, its pointer too
abbrev pub gap_wanted : List Slot → (size : ℕ) → ℕ
gap_wanted slots size = if has_unused slots then size else size + 4

-- a version of this size was put into the slot of this number, right below all others. Where the gap had as many bytes as are
-- wanted, no other was moved; else all others lie in the order of their slots
pub record IsPutBelow (slots : List Slot) (old new : VersionPlaces) (n : SlotNo) (size wanted : ℕ) : Type 0 where
  pub here : start_at new n ≡ Some new.upper
  pub stays : HasGap (length slots) old.upper wanted → OthersStay old new n
  pub below : HasGap (length slots) old.upper wanted → new.upper + size ≡ old.upper
  pub order : ¬ HasGap (length slots) old.upper wanted → OthersLieInOrder slots new n
  pub packed : ¬ HasGap (length slots) old.upper wanted
      → new.upper + size + sum_by bytes_taken slots ≡ PAGE_BYTES

-- the last version goes: the slots before hold one, and those after hold none
abbrev pub loses_last : List Slot → List Slot → Bool
loses_last before after = not (sum_by bytes_taken before == 0) && (sum_by bytes_taken after == 0)

-- the slot of this number holds no version any more, and no other is moved. Where the last goes, the gap reaches to the page's end
abbrev pub places_without : List Slot → List Slot → SlotNo → VersionPlaces → VersionPlaces
places_without before after n places = record {
  starts = slice_set places.starts (n - 1) None;
  upper = if loses_last before after then PAGE_BYTES else places.upper;
}
