-- What is known of how the versions of a page lie.
use Rattle.std.specs.Prelude.{◌≡◌, ◌≢◌, ◌<◌, ⊤, ℕ, List}
use Rattle.xid_circle.specs.Numbers.{Count}
use Rattle.page_layout.specs.declared.pointer.Extent.{Extent}
use Rattle.page_layout.specs.declared.pointer.Pointer.{Pointer}
use Rattle.page_layout.specs.declared.sizes.TheConstants.{PAGE_BYTES}
use Rattle.page_layout.specs.Layout.{pointer_in, upper_in}
use Rattle.page_layout.specs.Sound.{IsSound, end_of}
use Rattle.page_sheet.specs.Packing.{IsBlock}
use Rattle.page_sheet.specs.declared.lying.Lying.{Lying}

-- the versions lie one behind the other in the order of their slots, but for one hole, where that of the slot at an index stood
pub record IsInOrderWithout (bytes : List ℕ) (count : Count) (first : ℕ) (e : Extent) : Type 0 where
  pub within : first < count
  pub above : IsBlock bytes count 0 PAGE_BYTES first (end_of e)
  pub below : IsBlock bytes count first e.from count (upper_in bytes)

-- the versions lie as it is known
abbrev pub IsLying : List ℕ → Count → Lying → Type 0
IsLying bytes count Lying.Anyhow = ⊤
IsLying bytes count Lying.InOrder = IsBlock bytes count 0 PAGE_BYTES count (upper_in bytes)
IsLying bytes count (Lying.Without first e) = IsInOrderWithout bytes count first e

-- the slot at an index holds no version any more, and all other pointers stay
pub record IsCleared (old new : List ℕ) (count : Count) (index : ℕ) : Type 0 where
  pub sound : IsSound new count
  pub upper : upper_in new ≡ upper_in old
  pub others : (i : ℕ) → i ≢ index → pointer_in new i ≡ pointer_in old i
  pub bare : (e : Extent) → pointer_in new index ≡ Pointer.Normal e → ⊥
