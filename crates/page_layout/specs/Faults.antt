-- What can be wrong with the header of a page, or with a slot by itself (PostgreSQL manual, Database Page Layout).
use Rattle.std.specs.Prelude.{ℕ, zero, suc, ◌+◌, ◌-◌, ◌*◌, ◌/◌, ◌%◌, ◌==◌, nat_lt, not, ◌||◌, Bool, true, false, if◌then◌else◌, List, length, Option, Some, None}
use Rattle.std.specs.Option.{option_or}
use Rattle.tuple_header.specs.declared.version.TheConstants.{BODY_START, MOST_SLOTS}
use Rattle.tuple_header.specs.Layout.{number_at}
use Rattle.tuple_header.specs.Faults.{first_fault}
use Rattle.tuple_header.specs.declared.fault.TupleFault.{TupleFault}
use Rattle.xid_circle.specs.Numbers.{Count}
use Rattle.page_layout.specs.declared.faults.PageFault.{PageFault}
use Rattle.page_layout.specs.declared.faults.PageFault.TheVariants.{Length, Header, Bounds, BadPointer, BadTuple}
use Rattle.page_layout.specs.declared.pointer.Pointer.{Pointer}
use Rattle.page_layout.specs.declared.sizes.TheConstants.{PAGE_BYTES, PAGE_HEADER_BYTES}
use Rattle.page_layout.specs.Layout.{flags_in, lower_in, upper_in, slot_count_in, pointer_in, part_of}
use Rattle.page_layout.specs.Sound.{end_of}

-- The header.

-- A field that never changes is wrong. Where all are right, there is no checksum, no flag but that all is visible, no special
-- space and no id to prune at. The size is then 8192 with layout version 4.
abbrev pub has_wrong_header : List ℕ → Bool
has_wrong_header bytes =
    not (number_at 8 2 bytes == 0)
    || not (flags_in bytes == 0 || flags_in bytes == 4)
    || not (number_at 16 2 bytes == PAGE_BYTES)
    || not (number_at 18 2 bytes == PAGE_BYTES + 4)
    || not (number_at 20 4 bytes == 0)

-- pd_lower is not behind whole pointers, at most 291, or pd_upper is not between it and the end, at a multiple of 8
abbrev pub has_wrong_bounds : List ℕ → Bool
has_wrong_bounds bytes =
    nat_lt (lower_in bytes) PAGE_HEADER_BYTES
    || nat_lt (PAGE_HEADER_BYTES + 4 * MOST_SLOTS) (lower_in bytes)
    || not ((lower_in bytes - PAGE_HEADER_BYTES) % 4 == 0)
    || nat_lt (upper_in bytes) (lower_in bytes)
    || nat_lt PAGE_BYTES (upper_in bytes)
    || not (upper_in bytes % 8 == 0)

-- what is found before the slots are looked at
unfoldable pub frame_fault : List ℕ → Option PageFault
frame_fault bytes =
    if not (length bytes == PAGE_BYTES) then Some Length
    else (if has_wrong_header bytes then Some Header
    else (if has_wrong_bounds bytes then Some Bounds else None))

-- The slots. That of index i has the number i + 1.

-- the word of a line pointer
abbrev pub word_in : List ℕ → ℕ → ℕ
word_in bytes i = number_at (PAGE_HEADER_BYTES + 4 * i) 4 bytes

-- a pointer's word has an offset or a length
abbrev pub has_place : ℕ → Bool
has_place word = not (word % 32768 == 0) || not (word / 131072 == 0)

-- A word that says this is wrong, on a page of so many slots whose versions begin here. An unused or dead slot has no place. A version lies
-- whole over the bound, at a multiple of 8. A redirect has no length, and leads to one of the slots.
abbrev pub is_bad_word : Count → (upper word : ℕ) → Pointer → Bool
is_bad_word count upper word Pointer.Unused = has_place word
is_bad_word count upper word (Pointer.Normal e) =
    nat_lt e.len BODY_START || not (e.from % 8 == 0) || nat_lt e.from upper || nat_lt PAGE_BYTES (end_of e)
is_bad_word count upper word (Pointer.Redirect target) = not (word / 131072 == 0) || target == 0 || nat_lt count target
is_bad_word count upper word Pointer.Dead = has_place word

abbrev pub has_bad_pointer : List ℕ → ℕ → Bool
has_bad_pointer bytes i = is_bad_word (slot_count_in bytes) (upper_in bytes) (word_in bytes i) (pointer_in bytes i)

abbrev pub is_fault : Option TupleFault → Bool
is_fault None = false
is_fault (Some fault) = true

-- the bytes of a version have a fault
abbrev pub has_bad_tuple : List ℕ → Pointer → Bool
has_bad_tuple bytes Pointer.Unused = false
has_bad_tuple bytes (Pointer.Normal e) = is_fault (first_fault (part_of bytes e))
has_bad_tuple bytes (Pointer.Redirect target) = false
has_bad_tuple bytes Pointer.Dead = false

unfoldable pub slot_fault : List ℕ → ℕ → Option PageFault
slot_fault bytes i =
    if has_bad_pointer bytes i then Some (BadPointer (i + 1))
    else (if has_bad_tuple bytes (pointer_in bytes i) then Some (BadTuple (i + 1)) else None)

-- the first that one of the first so many slots has
abbrev pub first_among : (ℕ → Option PageFault) → Count → Option PageFault
first_among fault zero = None
first_among fault (suc n) = option_or (first_among fault n) (fault n)
