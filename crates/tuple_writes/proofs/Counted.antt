-- A version that is taken away changes otherwise than in hints.
use Rattle.std.proofs.Common.{◌≡◌, ◌≢◌, ◌&&◌, ℕ, Bool, true, false, List, ⊎_elim, sym, ap, ◌∙◌, refl}
use Rattle.std.proofs.lemmas.Bool.{ne_eqb}
use Rattle.page_sheet.specs.declared.slot.Slot.{Slot}
use Rattle.page_sheet.specs.declared.slot.Slot.TheVariants.{Normal}
use Rattle.page_sheet.specs.Slots.{change_unless, next_change}
use Rattle.page_sheet.proofs.SlotLemmas.{slot_at-from_version_at, the_slot-from_slot_at}
use Rattle.commit_status.specs.declared.status.Status.TheVariants.{InProgress, Aborted}
use Rattle.commit_status.specs.Window.{Window, IsActive, status_of}
use Rattle.tuple_writes.specs.Writes.{was_replaced, replaced_change}
use Rattle.tuple_writes.specs.Keeps.{IsDeletable}
use Rattle.tuple_writes.proofs.Slotted.{active-some}

one-differs : (a b c d e : Bool) → b ≡ false → a && b && c && d && e ≡ false
one-differs true b c d e f = rw f refl
one-differs false b c d e f = refl

other-deleter : (w : Window) (n x : ℕ) (slots : List Slot) → IsActive w x → (f : IsDeletable w slots n) → f.version.header.xmax.0 ≢ x
other-deleter w n x slots active f same = ⊎_elim
    (λ none. active-some w x active (sym same ∙ none))
    (λ gone. let e : InProgress ≡ Aborted = sym active.unfinished ∙ ap (status_of w) (sym same) ∙ gone in absurd (cc))
    f.untaken

pub counted : (w : Window) (n x page place change : ℕ) (hot : Bool) (slots : List Slot) → IsActive w x → IsDeletable w slots n
    → replaced_change slots n x page place hot change ≡ next_change change
counted w n x page place change hot slots active f =
    let t = f.version in
    let is = the_slot-from_slot_at slots n (Normal t) (slot_at-from_version_at slots n t f.there) in
    let off : was_replaced x page place hot (Normal t) ≡ false =
    one-differs _ _ _ _ _ (ne_eqb t.header.xmax.0 x (other-deleter w n x slots active f)) in
    ap (λ s. change_unless (was_replaced x page place hot s) change) is ∙ ap (λ b. change_unless b change) off
