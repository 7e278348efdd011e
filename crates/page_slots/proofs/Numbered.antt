-- The slot of a number that is there, by its index among those of a sheet.
use Rattle.std.proofs.Common.{◌≡◌, ◌-◌, ◌<◌, ℕ, List, length, get_or, sym, ap, ◌∙◌, subst, arith}
use Rattle.page_sheet.specs.declared.slot.Slot.{Slot}
use Rattle.page_sheet.specs.declared.slot.Slot.TheVariants.{Unused}
use Rattle.page_sheet.specs.Slots.{SlotIsThere, the_slot}
use Rattle.page_sheet.specs.Layout.{slot_in, slots_in}
use Rattle.page_sheet.proofs.Sounds.{slots_in-at, length-slots_in}

pub record IsNumbered (count : ℕ) (bytes : List ℕ) (n index : ℕ) : Type 0 where
  pub within : index < count
  pub inside : index < length (slots_in count bytes)
  pub slot : get_or (slots_in count bytes) index Unused ≡ slot_in bytes index
  pub named : the_slot (slots_in count bytes) n ≡ slot_in bytes index

-- the number is known as another of the same value, by one more than the index
pub numbered : (slots : List Slot) (count : ℕ) (bytes : List ℕ) (n m : ℕ) → slots_in count bytes ≡ slots → m ≡ n → SlotIsThere slots n
    → IsNumbered count bytes n (m - 1)
numbered slots count bytes n m seen is there =
    let long = length-slots_in count bytes in
    let whole : SlotIsThere (slots_in count bytes) n = subst (λ (s : List Slot). SlotIsThere s n) (sym seen) there in
    let within : m - 1 < count = omega (arith, whole.0, whole.1) in
    let slot = slots_in-at count bytes (m - 1) Unused within in
    record { within = within; inside = omega arith; slot = slot; named = ap (λ (k : ℕ). get_or (slots_in count bytes) (k - 1) Unused) (sym is) ∙ slot }
