-- Where a version stands among the bytes of its page.
use Rattle.std.specs.Prelude.{◌≡◌, ◌≤◌, ℕ, ◌+◌, List, Option, Some, None, length}
use Rattle.std.specs.Option.{option_map}
use Rattle.std.specs.Int.{next_multiple_of}
use Rattle.xid_circle.specs.Numbers.{SlotNo}
use Rattle.tuple_header.specs.Version.{size_of}
use Rattle.page_layout.specs.declared.pointer.Extent.{Extent}
use Rattle.page_layout.specs.declared.pointer.Pointer.{Pointer}
use Rattle.page_layout.specs.Layout.{pointer_in}
use Rattle.page_layout.specs.declared.sizes.TheConstants.{PAGE_BYTES, PAGE_HEADER_BYTES}
use Rattle.page_sheet.specs.declared.slot.Slot.{Slot}
use Rattle.page_sheet.specs.Slots.{version_of, version_at}
use Rattle.page_sheet.specs.Layout.{slot_in}
use Rattle.tuple_header.specs.Faults.{first_fault}
use Rattle.tuple_header.specs.Layout.{decoded_version}
use Rattle.tuple_header.specs.declared.version.TheConstants.{BODY_START}

-- the size of a version, if there is one, not rounded up
abbrev pub version_length : Slot → Option ℕ
version_length slot = option_map (λ t. size_of t.row) (version_of slot)

abbrev pub length_at : List Slot → SlotNo → Option ℕ
length_at slots n = option_map (λ t. size_of t.row) (version_at slots n)

-- so many bytes from a place on lie behind the header and within the page, rounded up
abbrev pub LiesWithin : ℕ → ℕ → Type 0
LiesWithin from len = (PAGE_HEADER_BYTES ≤ from) × (from + next_multiple_of len 8 ≤ PAGE_BYTES)

-- the version at an index stands there
pub record StandsAt (bytes : List ℕ) (i : ℕ) (e : Extent) : Type 0 where
  pub pointer : pointer_in bytes i ≡ Pointer.Normal e
  pub size : version_length (slot_in bytes i) ≡ Some e.len
  pub within : LiesWithin e.from e.len

-- its first byte is this one
abbrev pub BeginsAt : List ℕ → ℕ → ℕ → Type 0
BeginsAt bytes i from = (len : ℕ) × (pointer_in bytes i ≡ Pointer.Normal (record { from = from; len = len }))

-- these are the bytes of the version at an index: they have no fault
pub record IsVersionAt (bytes : List ℕ) (i : ℕ) (part : List ℕ) : Type 0 where
  pub faultless : first_fault part ≡ None
  pub value : version_of (slot_in bytes i) ≡ Some (decoded_version part)
  pub least : BODY_START ≤ length part
  pub most : length part ≤ 1090
