-- The slots that the functions leave are those of the definitions.
use Rattle.std.proofs.Common.{◌≡◌, ◌≢◌, ℕ, true, List, Some, IsSome, sym, ap, ◌∙◌, refl, subst}
use Rattle.std.specs.Option.{option_and_then}
use Rattle.page_sheet.specs.declared.slot.Slot.{Slot}
use Rattle.page_sheet.specs.declared.slot.Slot.TheVariants.{Normal}
use Rattle.page_sheet.specs.Slots.{slot_at, version_at, version_of, the_slot, with_added, free_number, change_unless, next_change, IsNormalAt}
use Rattle.page_sheet.proofs.SlotLemmas.{normal_at, the_slot-from_slot_at, slot_at-with_added_other, free_number-not_normal}
use Rattle.tuple_header.specs.Version.{Version}
use Rattle.tuple_writes.specs.Writes.{was_replaced, replaced_change}
use Rattle.tuple_writes.proofs.Growth.{none-some}

-- A version stays where another is added.

not-free : (slots : List Slot) (n : ℕ) (t : Version) → slot_at slots n ≡ Some (Normal t) → n ≢ free_number slots
not-free slots n t at same = none-some (version_at slots n) t (ap (version_at slots) same ∙ free_number-not_normal slots) (ap (option_and_then version_of) at)

pub kept-added : (slots : List Slot) (n : ℕ) (s : Slot) (t : Version) → slot_at slots n ≡ Some (Normal t) → slot_at (with_added slots s) n ≡ Some (Normal t)
kept-added slots n s t at = slot_at-with_added_other slots n s (not-free slots n t at) ∙ at

pub normal-added : (slots : List Slot) (n : ℕ) (s : Slot) → IsNormalAt slots n → IsNormalAt (with_added slots s) n
normal-added slots n s normal =
    let t = normal_at slots n normal in
    let at : version_at (with_added slots s) n ≡ Some t.0 = ap (option_and_then version_of) (kept-added slots n s t.0 t.1) in
    subst (λ o. IsSome o) (sym at) refl

pub the_slot-added : (slots : List Slot) (n : ℕ) (s : Slot) → IsNormalAt slots n → the_slot (with_added slots s) n ≡ the_slot slots n
the_slot-added slots n s normal =
    let t = normal_at slots n normal in
    the_slot-from_slot_at (with_added slots s) n (Normal t.0) (kept-added slots n s t.0 t.1) ∙ sym (the_slot-from_slot_at slots n (Normal t.0) t.1)

-- the change number after an update's two changes
pub change-updated : (slots middle : List Slot) (s : Slot) (n x page k change between : ℕ) → IsNormalAt slots n → middle ≡ with_added slots s
    → k ≡ free_number slots → between ≡ next_change change
    → replaced_change middle n x page k true between ≡ replaced_change slots n x page (free_number slots) true (next_change change)
change-updated slots middle s n x page k change between normal is place once =
    let same : the_slot middle n ≡ the_slot slots n = ap (λ l. the_slot l n) is ∙ the_slot-added slots n s normal in
    ap (λ o. change_unless (was_replaced x page k true o) between) same
    ∙ ap (λ i. change_unless (was_replaced x page i true (the_slot slots n)) between) place
    ∙ ap (λ i. change_unless (was_replaced x page (free_number slots) true (the_slot slots n)) i) once
