-- What the bytes of a page keep.
use Rattle.std.specs.Prelude.{◌≡◌, ◌≢◌, ℕ, ◌+◌, ◌*◌, ◌%◌, ◌<◌, ◌≤◌, ◌⊎◌, ⊤, List, length, take, drop, None}
use Rattle.std.specs.Int.{next_multiple_of}
use Rattle.tuple_header.specs.Layout.{number_at, decoded_version}
use Rattle.tuple_header.specs.Faults.{first_fault}
use Rattle.tuple_header.specs.Version.{Version}
use Rattle.tuple_header.specs.declared.version.TheConstants.{BODY_START, MOST_SLOTS}
use Rattle.xid_circle.specs.Numbers.{Count}
use Rattle.page_layout.specs.declared.pointer.Pointer.{Pointer}
use Rattle.page_layout.specs.declared.pointer.Extent.{Extent}
use Rattle.page_layout.specs.declared.sizes.TheConstants.{PAGE_BYTES, PAGE_HEADER_BYTES}
use Rattle.page_layout.specs.Layout.{pointer_in, word_of, part_of, change_in, flags_in, lower_in, upper_in}

-- the bytes that a version takes, rounded up
abbrev pub end_of : Extent → ℕ
end_of e = e.from + next_multiple_of e.len 8

-- a version lies within the page and over the upper bound, and its bytes have no fault
pub record IsExtent (bytes : List ℕ) (e : Extent) : Type 0 where
  pub over : upper_in bytes ≤ e.from
  pub aligned : e.from % 8 ≡ 0
  pub least : BODY_START ≤ e.len
  pub within : end_of e ≤ PAGE_BYTES
  pub faultless : first_fault (part_of bytes e) ≡ None

-- a pointer of a page with so many slots: its version is good, its target is there
abbrev pub IsPointer : List ℕ → Count → Pointer → Type 0
IsPointer bytes count Pointer.Unused = ⊤
IsPointer bytes count (Pointer.Normal e) = IsExtent bytes e
IsPointer bytes count (Pointer.Redirect target) = (1 ≤ target) × (target ≤ count)
IsPointer bytes count Pointer.Dead = ⊤

-- a pointer without a version
abbrev pub HoldsNoVersion : Count → Pointer → Type 0
HoldsNoVersion count Pointer.Unused = ⊤
HoldsNoVersion count (Pointer.Normal e) = ⊥
HoldsNoVersion count (Pointer.Redirect target) = (1 ≤ target) × (target ≤ count)
HoldsNoVersion count Pointer.Dead = ⊤

-- two versions share no byte
abbrev pub AreApart : Pointer → Pointer → Type 0
AreApart (Pointer.Normal d) (Pointer.Normal e) = (end_of d ≤ e.from) ⊎ (end_of e ≤ d.from)
AreApart p q = ⊤

-- a pointer's word says no more than its slot: all other bits are 0
abbrev pub HasPlainWord : List ℕ → ℕ → Type 0
HasPlainWord bytes i = number_at (PAGE_HEADER_BYTES + 4 * i) 4 bytes ≡ word_of (pointer_in bytes i)

-- what of a page's header never changes but for one flag: that all versions are visible to all
pub record IsHeaded (bytes : List ℕ) : Type 0 where
  pub checksum : number_at 8 2 bytes ≡ 0
  pub flags : (flags_in bytes ≡ 0) ⊎ (flags_in bytes ≡ 4)
  -- the special space begins where the page ends
  pub special : number_at 16 2 bytes ≡ PAGE_BYTES
  -- the page's size, and 4 for the version of the layout
  pub version : number_at 18 2 bytes ≡ PAGE_BYTES + 4
  pub prune_id : number_at 20 4 bytes ≡ 0

-- the bytes of a page with so many slots
pub record IsSound (bytes : List ℕ) (count : Count) : Type 0 where
  pub long : length bytes ≡ PAGE_BYTES
  pub few : count ≤ MOST_SLOTS
  pub lower : lower_in bytes ≡ PAGE_HEADER_BYTES + 4 * count
  pub gap : PAGE_HEADER_BYTES + 4 * count ≤ upper_in bytes
  pub upper : upper_in bytes ≤ PAGE_BYTES
  pub aligned : upper_in bytes % 8 ≡ 0
  pub headed : IsHeaded bytes
  pub pointers : (i : ℕ) → i < count → IsPointer bytes count (pointer_in bytes i)
  pub plain : (i : ℕ) → i < count → HasPlainWord bytes i
  pub apart : (i j : ℕ) → i < count → j < count → (i ≡ j) ⊎ AreApart (pointer_in bytes i) (pointer_in bytes j)

-- the bytes of a version were written from a place on, and nothing else
pub record IsWritten (old new : List ℕ) (from len : ℕ) (v : Version) : Type 0 where
  pub faultless : first_fault (take len (drop from new)) ≡ None
  pub value : decoded_version (take len (drop from new)) ≡ v
  pub change : change_in new ≡ change_in old
  pub flags : flags_in new ≡ flags_in old
  pub upper : upper_in new ≡ upper_in old
  pub pointers : (i : ℕ) → PAGE_HEADER_BYTES + 4 * (i + 1) ≤ from → pointer_in new i ≡ pointer_in old i

-- all other versions lie above this one
abbrev pub AreAbove : List ℕ → Count → ℕ → Extent → Type 0
AreAbove bytes count i e = (j : ℕ) (d : Extent) → j < count → j ≢ i → pointer_in bytes j ≡ Pointer.Normal d → end_of e ≤ d.from
