-- The lines of slots, one more.
use Rattle.std.proofs.Common.{◌≡◌, ℕ, ◌+◌, List, ◌++◌, refl, add-one, ap, append_assoc, sym, ◌∙◌}
use Rattle.page_sheet.specs.Slots.{slot_at}
use Rattle.page_sheet.specs.declared.slot.Slot.{Slot}
use Rattle.script.specs.PageText.{inspected_lines, inspected_line}

inspected_lines-more : (bytes : List ℕ) (n : ℕ) (slots : List Slot) → inspected_lines bytes (n + 1) slots ≡ inspected_lines bytes n slots ++ inspected_line bytes n (slot_at slots (n + 1))
inspected_lines-more bytes n slots = rw add-one refl

-- one line more behind a text
pub inspected_lines-next : (bytes : List ℕ) (n : ℕ) (slots : List Slot) (first before after : List ℕ) → before ≡ first ++ inspected_lines bytes n slots
    → after ≡ before ++ inspected_line bytes n (slot_at slots (n + 1)) → after ≡ first ++ inspected_lines bytes (n + 1) slots
inspected_lines-next bytes n slots first before after e f =
    f ∙ ap (λ (xs : List ℕ). xs ++ inspected_line bytes n (slot_at slots (n + 1))) e
    ∙ append_assoc first (inspected_lines bytes n slots) (inspected_line bytes n (slot_at slots (n + 1)))
    ∙ ap (λ (xs : List ℕ). first ++ xs) (sym (inspected_lines-more bytes n slots))
