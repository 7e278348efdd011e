-- Where the parts of a page stand among its bytes (PostgreSQL manual, Database Page Layout). Every number is little endian.
use Rattle.std.specs.Prelude.{⊤, ◌<◌, ℕ, ◌+◌, ◌-◌, ◌*◌, ◌/◌, ◌%◌, ◌==◌, Bool, not, List, take, drop, if◌then◌else◌}
use Rattle.tuple_header.specs.Layout.{number_at}
use Rattle.page_layout.specs.declared.pointer.Pointer.{Pointer}
use Rattle.page_layout.specs.declared.pointer.Extent.{Extent}
use Rattle.page_layout.specs.declared.sizes.TheConstants.{PAGE_HEADER_BYTES}

-- The header.

abbrev pub change_in : List ℕ → ℕ
change_in bytes = number_at 0 8 bytes

abbrev pub flags_in : List ℕ → ℕ
flags_in bytes = number_at 10 2 bytes

abbrev pub is_all_visible_in : List ℕ → Bool
is_all_visible_in bytes = not (flags_in bytes == 0)

-- where the pointers end, and where the versions begin
abbrev pub lower_in : List ℕ → ℕ
lower_in bytes = number_at 12 2 bytes

abbrev pub upper_in : List ℕ → ℕ
upper_in bytes = number_at 14 2 bytes

-- The line pointers, of 4 bytes each, right behind the header.

abbrev pub slot_count_in : List ℕ → ℕ
slot_count_in bytes = (lower_in bytes - PAGE_HEADER_BYTES) / 4

-- what a pointer's word says: 15 bits of offset, 2 of kind and 15 of length
abbrev pub pointer_of : ℕ → Pointer
pointer_of word =
    if word / 32768 % 4 == 1 then Pointer.Normal (record { from = word % 32768; len = word / 131072 })
    else (if word / 32768 % 4 == 2 then Pointer.Redirect (word % 32768)
    else (if word / 32768 % 4 == 3 then Pointer.Dead else Pointer.Unused))

-- the pointer of index i, the first being 0
unfoldable pub pointer_in : List ℕ → ℕ → Pointer
pointer_in bytes i = pointer_of (number_at (PAGE_HEADER_BYTES + 4 * i) 4 bytes)

-- the bytes of a version
abbrev pub part_of : List ℕ → Extent → List ℕ
part_of bytes e = take e.len (drop e.from bytes)

-- a pointer's word
abbrev pub word_of : Pointer → ℕ
word_of Pointer.Unused = 0
word_of (Pointer.Normal e) = e.from + 32768 + e.len * 131072
word_of (Pointer.Redirect target) = target + 65536
word_of Pointer.Dead = 98304

-- its numbers fit their bits
abbrev pub IsPointed : Pointer → Type 0
IsPointed Pointer.Unused = ⊤
IsPointed (Pointer.Normal e) = (e.from < 32768) × (e.len < 32768)
IsPointed (Pointer.Redirect target) = target < 32768
IsPointed Pointer.Dead = ⊤
