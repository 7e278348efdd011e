-- Whether a slot is there and dead.
use Rattle.std.proofs.Common.{◌≡◌, true, sym, Some, None, refl}
use Rattle.std.specs.Prelude.{Option}
use Rattle.std.proofs.lemmas.Bool.{true≢false}
use Rattle.page_sheet.specs.declared.slot.Slot.{Slot}
use Rattle.page_sheet.specs.declared.slot.Slot.TheVariants.{Unused, Normal, Redirect, Dead}
use Rattle.page_sheet.specs.Slots.{is_dead}

pub dead-slot : (s : Slot) → (is_dead s ≡ true → Some s ≡ Some Dead) × (Some s ≡ Some Dead → is_dead s ≡ true)
dead-slot Unused = (λ e. absurd (true≢false (sym e)), λ e. absurd (cc e))
dead-slot (Normal t) = (λ e. absurd (true≢false (sym e)), λ e. absurd (cc e))
dead-slot (Redirect target) = (λ e. absurd (true≢false (sym e)), λ e. absurd (cc e))
dead-slot Dead = (λ e. refl, λ e. refl)

pub missing-dead : (o : Option Slot) → o ≡ None → o ≡ Some Dead → ⊥
missing-dead None none dead = absurd (cc dead)
missing-dead (Some s) none dead = absurd (cc none)
