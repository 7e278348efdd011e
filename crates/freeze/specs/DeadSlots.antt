-- The dead slots of a page.
use Rattle.std.specs.Prelude.{◌≡◌, ◌↔◌, ◌<◌, ℕ, List, [], ◌∷◌, ◌++◌, Some, Contains, if◌then◌else◌}
use Rattle.std.specs.List.{AllPairs}
use Rattle.page_sheet.specs.declared.slot.Slot.{Slot}
use Rattle.page_sheet.specs.declared.slot.Slot.TheVariants.{Dead}
use Rattle.page_sheet.specs.Slots.{slot_at, the_slot, is_dead}

-- the numbers of the dead slots, in ascending order
pub record ListsDead (slots : List Slot) (numbers : List ℕ) : Type 0 where
  pub ascending : AllPairs (λ a b. a < b) numbers
  pub members : (n : ℕ) → Contains numbers n ↔ (slot_at slots n ≡ Some Dead)

-- with this slot too, if it is dead
abbrev pub with_dead : List Slot → ℕ → List ℕ → List ℕ
with_dead slots n numbers = if is_dead (the_slot slots n) then numbers ++ n ∷ [] else numbers
