-- Where a version stands is read off its pointer.
use Rattle.std.proofs.Common.{◌≡◌, ℕ, ◌+◌, ◌-◌, ◌≤◌, List, length, drop, ap, sym, ◌∙◌, refl, subst, arith, Some, length-drop}
use Rattle.std.specs.Prelude.{IsSome}
use Rattle.page_layout.specs.declared.pointer.Pointer.{Pointer}
use Rattle.page_layout.specs.declared.pointer.Extent.{Extent}
use Rattle.page_sheet.specs.declared.slot.Slot.{Slot}
use Rattle.page_sheet.specs.declared.slot.Slot.TheVariants.{Unused, Normal, Redirect, Dead}
use Rattle.page_sheet.specs.Slots.{version_of}
use Rattle.page_layout.specs.Layout.{pointer_in, part_of, upper_in}
use Rattle.page_layout.specs.Sound.{IsExtent}
use Rattle.page_sheet.specs.Standing.{version_length, StandsAt, BeginsAt, IsVersionAt}
use Rattle.page_sheet.proofs.Shown.{shown, part-long, version-shown}

pub stands-shown : (bytes : List ℕ) (i : ℕ) (e : Extent) → length bytes ≡ 8192 → 24 ≤ upper_in bytes → IsExtent bytes e → Pointer.Normal e ≡ pointer_in bytes i
    → StandsAt bytes i e
stands-shown bytes i e long low good is =
    let size = part-long bytes e long good in
    let least : 66 ≤ e.len = good.least in
    let over : upper_in bytes ≤ e.from = good.over in
    let body : length (drop 66 (part_of bytes e)) ≡ length (part_of bytes e) - 66 = length-drop 66 (part_of bytes e) in
    let whole : 66 + length (drop 66 (part_of bytes e)) ≡ e.len = omega arith in
    record { pointer = sym is; size = ap version_length (shown bytes i (Pointer.Normal e) is) ∙ ap Some whole; within = (omega arith, good.within) }

-- what lies from its first byte on is the version
pub begins-shown : (bytes : List ℕ) (i from : ℕ) (e : Extent) (part : List ℕ) → length bytes ≡ 8192 → IsExtent bytes e → Pointer.Normal e ≡ pointer_in bytes i
    → e.from ≡ from → part ≡ part_of bytes (record { from = from; len = e.len }) → BeginsAt bytes i from × IsVersionAt bytes i part
begins-shown bytes i from e part long good is at same =
    subst (λ (f : ℕ). part ≡ part_of bytes (record { from = f; len = e.len }) → BeginsAt bytes i f × IsVersionAt bytes i part) at
    (λ there. ((e.len, sym is), subst (IsVersionAt bytes i) (sym there) (version-shown bytes i e long good is))) same

-- what has a length is a version
pub some-by_length : (s : Slot) (n : ℕ) → version_length s ≡ Some n → IsSome (version_of s)
some-by_length Unused n e = absurd (cc e)
some-by_length (Normal t) n e = refl
some-by_length (Redirect target) n e = absurd (cc e)
some-by_length Dead n e = absurd (cc e)
