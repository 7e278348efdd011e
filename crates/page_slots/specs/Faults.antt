-- What can be wrong with the bytes of a page, and which of it is named (PostgreSQL manual, Database Page Layout).
use Rattle.std.specs.Prelude.{◌≡◌, ℕ, zero, suc, ◌+◌, ◌-◌, nat_lt, not, ◌&&◌, ◌||◌, Bool, true, false, if◌then◌else◌, List, Option, Some, None, Result, Ok, Err}
use Rattle.std.specs.Option.{option_or}
use Rattle.tuple_header.specs.Marks.{is_heap_only}
use Rattle.tuple_header.specs.Version.{Version}
use Rattle.xid_circle.specs.Numbers.{Count}
use Rattle.page_layout.specs.declared.faults.PageFault.{PageFault}
use Rattle.page_layout.specs.declared.faults.PageFault.TheVariants.{BadRedirect, Overlap}
use Rattle.page_layout.specs.declared.pointer.Pointer.{Pointer}
use Rattle.page_sheet.specs.declared.slot.Slot.{Slot}
use Rattle.page_sheet.specs.Slots.{version_at, redirect_at}
use Rattle.page_layout.specs.Layout.{slot_count_in, pointer_in}
use Rattle.page_sheet.specs.Layout.{slot_in}
use Rattle.page_layout.specs.Sound.{end_of}
use Rattle.page_slots.specs.View.{PageView}
use Rattle.page_slots.specs.Reading.{page_of}
use Rattle.page_layout.specs.Faults.{frame_fault, slot_fault, first_among}

-- Redirects.

abbrev pub holds_heap_only : Slot → Bool
holds_heap_only Slot.Unused = false
holds_heap_only (Slot.Normal t) = is_heap_only t.header
holds_heap_only (Slot.Redirect target) = false
holds_heap_only Slot.Dead = false

-- a redirect leads to anything but a heap-only version
abbrev pub leads_astray : List ℕ → Pointer → Bool
leads_astray bytes Pointer.Unused = false
leads_astray bytes (Pointer.Normal e) = false
leads_astray bytes (Pointer.Redirect target) = not (holds_heap_only (slot_in bytes (target - 1)))
leads_astray bytes Pointer.Dead = false

unfoldable pub redirect_fault : List ℕ → ℕ → Option PageFault
redirect_fault bytes i = if leads_astray bytes (pointer_in bytes i) then Some (BadRedirect (i + 1)) else None

-- Overlaps.

-- two versions share a byte, each rounded up
abbrev pub overlap : Pointer → Pointer → Bool
overlap (Pointer.Normal d) (Pointer.Normal e) = nat_lt d.from (end_of e) && nat_lt e.from (end_of d)
overlap p q = false

-- the version at an index shares a byte with one of the first so many
abbrev pub overlaps_among : List ℕ → ℕ → Count → Bool
overlaps_among bytes i zero = false
overlaps_among bytes i (suc j) = overlaps_among bytes i j || overlap (pointer_in bytes j) (pointer_in bytes i)

unfoldable pub overlap_fault : List ℕ → ℕ → Option PageFault
overlap_fault bytes i = if overlaps_among bytes i i then Some (Overlap (i + 1)) else None

-- All.

-- the first that the bytes have: each slot is looked at by itself before any redirect is followed, and overlaps come last
unfoldable pub page_fault : List ℕ → Option PageFault
page_fault bytes =
    option_or (frame_fault bytes)
    (option_or (first_among (slot_fault bytes) (slot_count_in bytes))
    (option_or (first_among (redirect_fault bytes) (slot_count_in bytes))
    (first_among (overlap_fault bytes) (slot_count_in bytes))))

abbrev pub unless_fault : PageView → Option PageFault → Result PageView PageFault
unless_fault page None = Ok page
unless_fault page (Some fault) = Err fault

-- what bytes read as
abbrev pub checking : List ℕ → Result PageView PageFault
checking bytes = unless_fault (page_of bytes) (page_fault bytes)

-- What a page has to keep beside, so that it is read back.

-- each redirect leads to a heap-only version
abbrev pub AreSoundRedirects : List Slot → Type 0
AreSoundRedirects slots =
    (n target : ℕ) → redirect_at slots n ≡ Some target
    → (t : Version) × (version_at slots target ≡ Some t) × (is_heap_only t.header ≡ true)
