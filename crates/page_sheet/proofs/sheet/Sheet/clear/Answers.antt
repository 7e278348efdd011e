use Rattle.std.proofs.Common.{◌≡◌, ◌≢◌, ◌<◌, ◌∙◌, ℕ, [], true, false, if◌then◌else◌, sym, ap, subst}
use Rattle.page_layout.specs.Layout.{pointer_in, upper_in}
use Rattle.page_sheet.specs.Layout.{shown_by, slots_in}
use Rattle.page_sheet.specs.Placing.{loses_last}
use Rattle.page_sheet.proofs.PlacingLemmas.{bare-version, places-cleared}
use Rattle.page_sheet.proofs.sheet.Sheet.clear.Goals as goal

pub returns-then-last-clause-places : goal.returns-then-last-clause-places
returns-then-last-clause-places c =
    let old = c.args.self.now in
    let new = c.lift_upper.new.self in
    let before = slots_in old.count old.bytes in
    let slots = c.lift_upper.ensures.slots.are ∙ c.set_pointer.ensures.slots.are in
    let lost : loses_last before (slots_in new.count new.bytes) ≡ true = ap (loses_last before) slots ∙ sym c.requires.last ∙ c.if-last.true in
    let same : (i : ℕ) → i < old.count → i ≢ c.args.index → pointer_in new.bytes i ≡ pointer_in old.bytes i = λ i within other.
    c.lift_upper.ensures.pointers i (subst (λ (n : ℕ). i < n) (sym c.set_pointer.ensures.count) within) ∙ c.set_pointer.ensures.others i within other in
    places-cleared old new c.args.index (if loses_last before (slots_in new.count new.bytes) then 8192 else upper_in old.bytes) (shown_by [] c.args.pointer) c.requires.there
    (c.lift_upper.ensures.count ∙ c.set_pointer.ensures.count) slots (bare-version old.count c.args.pointer c.requires.bare) same
    (rw lost c.lift_upper.ensures.upper)

pub returns-else-last-clause-places : goal.returns-else-last-clause-places
returns-else-last-clause-places c =
    let old = c.args.self.now in
    let new = c.set_pointer.new.self in
    let before = slots_in old.count old.bytes in
    let kept : loses_last before (slots_in new.count new.bytes) ≡ false = ap (loses_last before) c.set_pointer.ensures.slots.are ∙ sym c.requires.last ∙ c.if-last.false in
    places-cleared old new c.args.index (if loses_last before (slots_in new.count new.bytes) then 8192 else upper_in old.bytes) (shown_by [] c.args.pointer) c.requires.there
    c.set_pointer.ensures.count c.set_pointer.ensures.slots.are (bare-version old.count c.args.pointer c.requires.bare) c.set_pointer.ensures.others
    (rw kept c.set_pointer.ensures.upper)
