-- The slots that the bytes of a page say.
use Rattle.std.specs.Prelude.{◌≡◌, ◌<◌, ℕ, List, map}
use Rattle.std.specs.List.{range_with_len}
use Rattle.xid_circle.specs.Numbers.{Count}
use Rattle.tuple_header.specs.Layout.{decoded_version}
use Rattle.page_layout.specs.declared.pointer.Pointer.{Pointer}
use Rattle.page_sheet.specs.declared.slot.Slot.{Slot}
use Rattle.page_layout.specs.Layout.{part_of, pointer_in, change_in, flags_in}

-- what a pointer shows
abbrev pub shown_by : List ℕ → Pointer → Slot
shown_by bytes Pointer.Unused = Slot.Unused
shown_by bytes (Pointer.Normal e) = Slot.Normal (decoded_version (part_of bytes e))
shown_by bytes (Pointer.Redirect target) = Slot.Redirect target
shown_by bytes Pointer.Dead = Slot.Dead

unfoldable pub slot_in : List ℕ → ℕ → Slot
slot_in bytes i = shown_by bytes (pointer_in bytes i)

-- the first so many slots
abbrev pub slots_in : ℕ → List ℕ → List Slot
slots_in count bytes = map (slot_in bytes) (range_with_len 0 count)

-- the first so many slots become these; the change number and the flags stay
pub record SlotsBecome (old new : List ℕ) (count : Count) (slots : List Slot) : Type 0 where
  pub are : slots_in count new ≡ slots
  pub change : change_in new ≡ change_in old
  pub flags : flags_in new ≡ flags_in old

-- one of the first so many pointers is a redirect to the slot of this number
pub record SomeRedirects (bytes : List ℕ) (count : Count) (number : ℕ) : Type 0 where
  pub index : ℕ
  pub within : index < count
  pub is : pointer_in bytes index ≡ Pointer.Redirect number
