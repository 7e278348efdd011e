-- The units of 8 bytes of a page, each marked where a version lies: a version begins and, rounded up, ends at a multiple of 8.
use Rattle.std.specs.Prelude.{◌≡◌, ◌<◌, ◌≤◌, ◌⊎◌, ℕ, ◌+◌, ◌*◌, Bool, true, List, length, sum_by, None}
use Rattle.xid_circle.specs.Numbers.{Count}
use Rattle.page_layout.specs.declared.units.TheConstants.{PAGE_UNITS}
use Rattle.page_layout.specs.declared.sizes.TheConstants.{PAGE_BYTES}
use Rattle.page_layout.specs.declared.pointer.Pointer.{Pointer}
use Rattle.page_layout.specs.declared.pointer.Extent.{Extent}
use Rattle.page_sheet.specs.Slots.{bytes_taken}
use Rattle.page_layout.specs.Layout.{pointer_in, upper_in}
use Rattle.page_sheet.specs.Layout.{slots_in}
use Rattle.page_layout.specs.Sound.{AreApart, end_of}
use Rattle.page_slots.specs.Faults.{overlap_fault}
use Rattle.page_layout.specs.Faults.{first_among}
use Rattle.page_layout.specs.Units.{is_marked}

-- the version of the slot at an index lies on this unit
pub record LiesOn (bytes : List ℕ) (unit i : ℕ) : Type 0 where
  pub extent : Extent
  pub is : pointer_in bytes i ≡ Pointer.Normal extent
  pub from : extent.from ≤ 8 * unit
  pub to : 8 * unit < end_of extent

-- it is that of one of the first so many slots
pub record SomeLiesOn (bytes : List ℕ) (unit : ℕ) (count : Count) : Type 0 where
  pub index : ℕ
  pub within : index < count
  pub lies : LiesOn bytes unit index

-- the units of the versions of the first so many slots are marked, and no others, and no two of these overlap
pub record IsCovered (bytes : List ℕ) (count : Count) (marks : List Bool) : Type 0 where
  pub long : length marks ≡ PAGE_UNITS
  pub owned : (unit : ℕ) → is_marked marks unit ≡ true → SomeLiesOn bytes unit count
  pub marked : (unit i : ℕ) → i < count → LiesOn bytes unit i → is_marked marks unit ≡ true
  pub none : first_among (overlap_fault bytes) count ≡ None

-- no two versions overlap, and this is how many units they take, which lie over the bound
pub record AreClear (bytes : List ℕ) (count : Count) (units : ℕ) : Type 0 where
  pub none : first_among (overlap_fault bytes) count ≡ None
  pub apart : (i j : ℕ) → i < count → j < count → (i ≡ j) ⊎ AreApart (pointer_in bytes i) (pointer_in bytes j)
  pub sum : 8 * units ≡ sum_by bytes_taken (slots_in count bytes)
  pub fits : upper_in bytes + 8 * units ≤ PAGE_BYTES
