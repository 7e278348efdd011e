-- Versions are moved together, from the end of the page downward in the order of their slots.
use Rattle.std.specs.Prelude.{◌≡◌, ◌≢◌, ℕ, ◌+◌, ◌*◌, ◌%◌, ◌<◌, ◌≤◌, ◌⊎◌, List, length, take, sum_by, None}
use Rattle.tuple_header.specs.Layout.{number_at}
use Rattle.tuple_header.specs.Faults.{first_fault}
use Rattle.page_layout.specs.declared.pointer.Pointer.{Pointer}
use Rattle.page_layout.specs.declared.pointer.Extent.{Extent}
use Rattle.xid_circle.specs.Numbers.{Count}
use Rattle.page_sheet.specs.declared.slot.Slot.{Slot}
use Rattle.page_layout.specs.declared.sizes.TheConstants.{PAGE_BYTES, PAGE_HEADER_BYTES}
use Rattle.page_sheet.specs.Slots.{bytes_taken}
use Rattle.page_layout.specs.Layout.{pointer_in, part_of}
use Rattle.page_sheet.specs.Layout.{slot_in, slots_in}
use Rattle.page_layout.specs.Sound.{AreApart, HasPlainWord, end_of}
use Rattle.tuple_header.specs.declared.version.TheConstants.{BODY_START}

-- a version over this place, and its bytes have no fault
pub record LiesOver (bytes : List ℕ) (upper : ℕ) (e : Extent) : Type 0 where
  pub over : upper ≤ e.from
  pub aligned : e.from % 8 ≡ 0
  pub least : BODY_START ≤ e.len
  pub within : end_of e ≤ PAGE_BYTES
  pub faultless : first_fault (part_of bytes e) ≡ None

-- The versions of the first so many slots lie one behind the other. That of the first slot ends where the page does, each other
-- where that of a lower slot begins.
abbrev pub LieInOrder : List ℕ → List Slot → Count → Type 0
LieInOrder bytes slots count =
    (i : ℕ) (e : Extent) → i < count → pointer_in bytes i ≡ Pointer.Normal e → e.from + sum_by bytes_taken (take (i + 1) slots) ≡ PAGE_BYTES

-- the first so many slots are as in the old bytes, their versions moved together down to this place; the others' pointers stay
pub record IsPacked (old new : List ℕ) (count : Count) (index upper : ℕ) : Type 0 where
  pub long : length new ≡ PAGE_BYTES
  pub total : upper + sum_by bytes_taken (take index (slots_in count old)) ≡ PAGE_BYTES
  pub even : upper % 8 ≡ 0
  pub header : (i n : ℕ) → i + n ≤ PAGE_HEADER_BYTES → number_at i n new ≡ number_at i n old
  pub later : (j : ℕ) → index ≤ j → j < count → pointer_in new j ≡ pointer_in old j
  pub plain : (j : ℕ) → j < count → HasPlainWord new j
  pub slots : (j : ℕ) → j < index → slot_in new j ≡ slot_in old j
  pub bare : (j : ℕ) → j < index → ((e : Extent) → pointer_in old j ≡ Pointer.Normal e → ⊥) → pointer_in new j ≡ pointer_in old j
  pub over : (j : ℕ) (e : Extent) → j < index → pointer_in new j ≡ Pointer.Normal e → LiesOver new upper e
  pub order : LieInOrder new (slots_in count old) index
  pub normal : (j : ℕ) (e : Extent) → j < index → pointer_in old j ≡ Pointer.Normal e → (d : Extent) × (pointer_in new j ≡ Pointer.Normal d)
  pub apart : (i j : ℕ) → i < index → j < index → (i ≡ j) ⊎ AreApart (pointer_in new i) (pointer_in new j)

-- a version is moved below those that were
pub record IsMoved (new b : List ℕ) (i top : ℕ) (e : Extent) (old : List ℕ) : Type 0 where
  pub long : length b ≡ PAGE_BYTES
  pub header : (m n : ℕ) → m + n ≤ PAGE_HEADER_BYTES → number_at m n b ≡ number_at m n new
  pub others : (j : ℕ) → j ≢ i → PAGE_HEADER_BYTES + 4 * (j + 1) ≤ top → pointer_in b j ≡ pointer_in new j
  pub here : pointer_in b i ≡ Pointer.Normal (record { from = top; len = e.len })
  pub plain : HasPlainWord b i
  pub plain_others : (j : ℕ) → j ≢ i → PAGE_HEADER_BYTES + 4 * (j + 1) ≤ top → HasPlainWord new j → HasPlainWord b j
  pub part : part_of b (record { from = top; len = e.len }) ≡ part_of old e
  pub above : (d : Extent) → top + e.len ≤ d.from → d.from + d.len ≤ PAGE_BYTES → part_of b d ≡ part_of new d

-- what the first so many slots take
abbrev pub taken_to : List ℕ → Count → ℕ → ℕ
taken_to bytes count n = sum_by bytes_taken (take n (slots_in count bytes))

-- the versions of the slots from one on to before another lie one behind the other, down from one place to another
pub record IsBlock (bytes : List ℕ) (count : Count) (first top index low : ℕ) : Type 0 where
  pub total : low + taken_to bytes count index ≡ top + taken_to bytes count first
  pub even : low % 8 ≡ 0
  pub lie : (j : ℕ) (e : Extent) → first ≤ j → j < index → pointer_in bytes j ≡ Pointer.Normal e
      → e.from + taken_to bytes count (j + 1) ≡ top + taken_to bytes count first
