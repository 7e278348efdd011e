-- What a pointer shows of the bytes.
use Rattle.std.proofs.Common.{◌≡◌, ℕ, ◌+◌, ◌-◌, ◌≤◌, List, length, drop, sym, ap, ◌∙◌, refl, subst, arith, None, length-take, length-drop}
use Rattle.std.specs.Int.{next_multiple_of}
use Rattle.tuple_header.specs.declared.version.Header.{Header}
use Rattle.tuple_header.specs.Layout.{decoded_header}
use Rattle.tuple_header.specs.Faults.{first_fault, header_fault}
use Rattle.tuple_header.proofs.Faults.{first_fault-none, laid_out-from_none}
use Rattle.page_layout.specs.declared.pointer.Pointer.{Pointer}
use Rattle.page_layout.specs.declared.pointer.Extent.{Extent}
use Rattle.page_sheet.specs.declared.slot.SlotHead.{SlotHead}
use Rattle.page_sheet.specs.Slots.{version_of, head_of, bytes_taken}
use Rattle.page_layout.specs.Sound.{IsPointer, IsExtent}
use Rattle.page_sheet.specs.Standing.{IsVersionAt}
use Rattle.page_layout.specs.Layout.{pointer_in, part_of}
use Rattle.page_sheet.specs.Layout.{shown_by, slot_in}
use Rattle.page_layout.proofs.PointerLemmas.{rounded-up}

pub shown : (bytes : List ℕ) (i : ℕ) (p : Pointer) → p ≡ pointer_in bytes i → slot_in bytes i ≡ shown_by bytes p
unfolding slot_in
shown bytes i p e = ap (shown_by bytes) (sym e)

-- the header in a part without a fault has none
pub part-faultless : (part : List ℕ) (h : Header) → first_fault part ≡ None → h ≡ decoded_header part → header_fault h ≡ None
part-faultless part h none e = ap header_fault e ∙ (first_fault-none part none).1

-- and a part without a fault is short
pub part-short : (part : List ℕ) → first_fault part ≡ None → length part ≤ 1090
part-short part none = let laid = laid_out-from_none part (first_fault-none part none).0 in omega (arith, laid.length, laid.small)

-- the extent of a normal pointer
pub extent-good : (bytes : List ℕ) (count : ℕ) (p : Pointer) (e : Extent) → IsPointer bytes count p → p ≡ Pointer.Normal e → IsExtent bytes e
extent-good bytes count p e good is = subst (IsPointer bytes count) is good

-- what is not normal holds no version
pub none-shown : (bytes : List ℕ) (i : ℕ) (p : Pointer) → p ≡ pointer_in bytes i → ((e : Extent) → p ≡ Pointer.Normal e → ⊥) → version_of (slot_in bytes i) ≡ None
none-shown bytes i Pointer.Unused e other = ap version_of (shown bytes i Pointer.Unused e)
none-shown bytes i (Pointer.Normal x) e other = absurd (other x refl)
none-shown bytes i (Pointer.Redirect target) e other = ap version_of (shown bytes i (Pointer.Redirect target) e)
none-shown bytes i Pointer.Dead e other = ap version_of (shown bytes i Pointer.Dead e)

-- what is neither normal nor a redirect tells nothing
pub empty-shown : (bytes : List ℕ) (i : ℕ) (p : Pointer) → p ≡ pointer_in bytes i → ((e : Extent) → p ≡ Pointer.Normal e → ⊥)
    → ((target : ℕ) → p ≡ Pointer.Redirect target → ⊥) → head_of (slot_in bytes i) ≡ SlotHead.Empty
empty-shown bytes i Pointer.Unused e other_1 other_2 = ap head_of (shown bytes i Pointer.Unused e)
empty-shown bytes i (Pointer.Normal x) e other_1 other_2 = absurd (other_1 x refl)
empty-shown bytes i (Pointer.Redirect target) e other_1 other_2 = absurd (other_2 target refl)
empty-shown bytes i Pointer.Dead e other_1 other_2 = ap head_of (shown bytes i Pointer.Dead e)

-- the part of a version is within the page, and as long as its pointer says
pub part-long : (bytes : List ℕ) (e : Extent) → length bytes ≡ 8192 → IsExtent bytes e → (length (part_of bytes e) ≡ e.len) × (e.from + e.len ≤ 8192)
part-long bytes e long good =
    let end : e.from + next_multiple_of e.len 8 ≤ 8192 = good.within in
    let up : e.len ≤ next_multiple_of e.len 8 = rounded-up e.len in
    (rw (length-take, length-drop) (omega arith), omega arith)

pub version-shown : (bytes : List ℕ) (i : ℕ) (e : Extent) → length bytes ≡ 8192 → IsExtent bytes e → Pointer.Normal e ≡ pointer_in bytes i
    → IsVersionAt bytes i (part_of bytes e)
version-shown bytes i e long good is =
    let none = good.faultless in
    let size = part-long bytes e long good in
    let least : 66 ≤ e.len = good.least in
    record { faultless = none; value = ap version_of (shown bytes i (Pointer.Normal e) is); least = omega arith; most = part-short (part_of bytes e) none }

-- what a version takes is read off its pointer
pub taken-shown : (bytes : List ℕ) (i : ℕ) (e : Extent) → length bytes ≡ 8192 → IsExtent bytes e → Pointer.Normal e ≡ pointer_in bytes i
    → bytes_taken (slot_in bytes i) ≡ next_multiple_of e.len 8
taken-shown bytes i e long good is =
    let size = part-long bytes e long good in
    let least : 66 ≤ e.len = good.least in
    let body : length (drop 66 (part_of bytes e)) ≡ length (part_of bytes e) - 66 = length-drop 66 (part_of bytes e) in
    let whole : 66 + length (drop 66 (part_of bytes e)) ≡ e.len = omega arith in
    ap bytes_taken (shown bytes i (Pointer.Normal e) is) ∙ ap (λ (n : ℕ). next_multiple_of n 8) whole
