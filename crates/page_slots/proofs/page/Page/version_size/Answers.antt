use Rattle.std.proofs.Common.{◌-◌, ◌<◌, ℕ, get_or, sym, ap, ◌∙◌, subst, arith}
use Rattle.page_slots.specs.View.{PageView}
use Rattle.page_sheet.specs.Slots.{SlotIsThere, bytes_taken, the_slot}
use Rattle.page_sheet.specs.declared.slot.Slot.TheVariants.{Unused}
use Rattle.page_sheet.specs.Layout.{slots_in}
use Rattle.page_sheet.proofs.Sounds.{slots_in-at, length-slots_in}
use Rattle.page_slots.proofs.page.Page.version_size.Goals as goal

pub version_size-requires : goal.version_size-requires
version_size-requires c =
    let there = subst (λ (p : PageView). SlotIsThere p.slots c.args.number) (sym c.self.view_is) c.requires in
    let long = length-slots_in c.self.inside.sheet.count c.self.inside.sheet.bytes in
    omega (arith, there.0, there.1, c.from.ensures)

pub returns : goal.returns
returns c =
    let count = c.self.inside.sheet.count in
    let bytes = c.self.inside.sheet.bytes in
    let there = subst (λ (p : PageView). SlotIsThere p.slots c.args.number) (sym c.self.view_is) c.requires in
    let long = length-slots_in count bytes in
    let within : c.from.result - 1 < count = omega (arith, there.0, there.1, c.from.ensures) in
    let same = c.version_size.ensures ∙ ap bytes_taken (sym (slots_in-at count bytes (c.from.result - 1) Unused within))
    ∙ ap (λ (m : ℕ). bytes_taken (get_or (slots_in count bytes) (m - 1) Unused)) c.from.ensures in
    let seen = ap (λ (p : PageView). bytes_taken (the_slot p.slots c.args.number)) (sym c.self.view_is) in
    same ∙ sym seen
