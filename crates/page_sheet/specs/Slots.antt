-- The slots of a page. They are numbered from 1 (PostgreSQL manual, Database Page Layout: item identifiers).
use Rattle.std.specs.Prelude.{◌≡◌, ℕ, zero, suc, ◌+◌, ◌-◌, ◌*◌, ◌%◌, ◌^◌, ◌≤◌, ◌==◌, ◌&&◌, Bool, true, false, if◌then◌else◌, List, [], ◌∷◌, ◌++◌, length, sum_by, nat_lt, Option, Some, None, IsSome, slice_get, slice_set, slice_index_or}
use Rattle.std.specs.Option.{option_map, option_and_then}
use Rattle.std.specs.List.{position_or_len}
use Rattle.page_sheet.specs.declared.slot.Slot.{Slot}
use Rattle.page_sheet.specs.declared.slot.Slot.TheVariants.{Unused, Normal, Redirect, Dead}
use Rattle.page_sheet.specs.declared.slot.SlotHead.{SlotHead}
use Rattle.page_sheet.specs.declared.slot.SlotHead.TheVariants as head
use Rattle.tuple_header.specs.Hints.{same_but_hints}
use Rattle.tuple_header.specs.Version.{Version, rounded_size_of}
use Rattle.tuple_header.specs.declared.version.Header.{Header}
use Rattle.tuple_header.specs.declared.version.Row.{Row}
use Rattle.page_sheet.specs.declared.sheet.TheConstants.{MOST_BYTES}
use Rattle.tuple_header.specs.declared.version.TheConstants.{MOST_SLOTS}

-- Kinds of slots.

abbrev pub is_unused : Slot → Bool
is_unused Unused = true
is_unused slot = false

abbrev pub is_dead : Slot → Bool
is_dead Dead = true
is_dead slot = false

abbrev pub redirects_to : ℕ → Slot → Bool
redirects_to n (Redirect target) = target == n
redirects_to n slot = false

-- whether it is a version of this inserter, which nobody deleted
abbrev pub is_undeleted_by : ℕ → Slot → Bool
is_undeleted_by x (Normal t) = (t.header.xmin.0 == x) && (t.header.xmax.0 == 0)
is_undeleted_by x slot = false

-- the version in a slot, if it is normal
abbrev pub version_of : Slot → Option Version
version_of (Normal t) = Some t
version_of slot = None

-- its row, if this inserter made it and nobody deleted it
abbrev pub undeleted_row : ℕ → Slot → Option Row
undeleted_row x slot = if is_undeleted_by x slot then option_map (λ t. t.row) (version_of slot) else None

-- where a slot leads, if it is a redirect
abbrev pub target_of : Slot → Option ℕ
target_of (Redirect target) = Some target
target_of slot = None

-- what a slot tells without its row
abbrev pub head_of : Slot → SlotHead
head_of (Normal t) = head.Version t.header
head_of (Redirect target) = head.Redirect target
head_of slot = head.Empty

-- What stands at a number.

-- the slot of this number, if there is one
abbrev pub slot_at : List Slot → ℕ → Option Slot
slot_at slots zero = None
slot_at slots (suc i) = slice_get slots i

-- the version in the slot of this number, if it is there and normal
abbrev pub version_at : List Slot → ℕ → Option Version
version_at slots n = option_and_then version_of (slot_at slots n)

-- that version's header, row and key
abbrev pub header_at : List Slot → ℕ → Option Header
header_at slots n = option_map (λ t. t.header) (version_at slots n)

abbrev pub row_at : List Slot → ℕ → Option Row
row_at slots n = option_map (λ t. t.row) (version_at slots n)

abbrev pub key_at : List Slot → ℕ → Option ℕ
key_at slots n = option_map (λ t. t.row.key) (version_at slots n)

-- its row, if it is there, this inserter made it, and nobody deleted it
abbrev pub undeleted_row_at : List Slot → ℕ → ℕ → Option Row
undeleted_row_at slots x n = option_and_then (undeleted_row x) (slot_at slots n)

-- where the slot of this number leads, if it is there and a redirect
abbrev pub redirect_at : List Slot → ℕ → Option ℕ
redirect_at slots n = option_and_then target_of (slot_at slots n)

-- some slot leads to that of this number
abbrev pub IsRedirected : List Slot → ℕ → Type 0
IsRedirected slots number = (n : ℕ) × (redirect_at slots n ≡ Some number)

-- whether there is a slot of this number
abbrev pub SlotIsThere : List Slot → ℕ → Type 0
SlotIsThere slots n = (1 ≤ n) × (n ≤ length slots)

-- whether it is there and normal
abbrev pub IsNormalAt : List Slot → ℕ → Type 0
IsNormalAt slots n = IsSome (version_at slots n)

-- the slot of a number that is there
abbrev pub the_slot : List Slot → ℕ → Slot
the_slot slots n = slice_index_or slots (n - 1) Unused

-- The slots afterwards.

-- with this one in the place of its number
abbrev pub with_slot : List Slot → ℕ → Slot → List Slot
with_slot slots n slot = slice_set slots (n - 1) slot

-- a slot with another header
abbrev pub with_header : Slot → Header → Slot
with_header (Normal t) h = Normal (record t { header = h })
with_header slot h = slot

-- with another header in the slot of this number
abbrev pub with_header_at : List Slot → ℕ → Header → List Slot
with_header_at slots n h = with_slot slots n (with_header (the_slot slots n) h)

-- whether there is an unused slot
abbrev pub has_unused : List Slot → Bool
has_unused slots = nat_lt (position_or_len is_unused slots) (length slots)

-- the number of the lowest unused slot, or of a new last one
abbrev pub free_number : List Slot → ℕ
free_number slots = position_or_len is_unused slots + 1

-- with this one at the free number
abbrev pub with_added : List Slot → Slot → List Slot
with_added slots slot =
    if has_unused slots then slice_set slots (position_or_len is_unused slots) slot else slots ++ slot ∷ []

-- Room, in bytes (PostgreSQL manual, Database Page Layout: a page of 8192 has a header of 24 and 4 for each pointer).

-- the bytes that a slot's version takes
abbrev pub bytes_taken : Slot → ℕ
bytes_taken (Normal t) = rounded_size_of t.row
bytes_taken slot = 0

-- what neither pointers nor versions take
abbrev pub free_bytes : List Slot → ℕ
free_bytes slots = MOST_BYTES - (4 * length slots + sum_by bytes_taken slots)

-- the largest size of a version that fits: a new slot takes a pointer, and there are at most 291
abbrev pub room_of : List Slot → ℕ
room_of slots =
    if has_unused slots then free_bytes slots
    else (if nat_lt (length slots) MOST_SLOTS then free_bytes slots - 4 else 0)

-- The change number: one more, modulo 2 ^ 64, for each slot that is afterwards not the same otherwise than in hints.

abbrev pub next_change : ℕ → ℕ
next_change n = (n + 1) % 2 ^ 64

abbrev pub change_unless : Bool → ℕ → ℕ
change_unless same n = if same then n else next_change n

-- whether another header would change hints alone
abbrev pub differs_in_hints_alone : Slot → Header → Bool
differs_in_hints_alone (Normal t) h = same_but_hints t.header h
differs_in_hints_alone slot h = true
