use Rattle.std.proofs.Common.{◌∙◌, ◌-◌, sym, ap, subst, arith}
use Rattle.page_slots.specs.View.{PageView}
use Rattle.page_sheet.specs.Slots.{SlotIsThere, redirects_to}
use Rattle.page_sheet.specs.Layout.{slot_in}
use Rattle.page_sheet.proofs.Found.{the_slot-in}
use Rattle.page_sheet.proofs.Sounds.{length-slots_in}
use Rattle.page_slots.proofs.page.Page.redirects_to.Goals as goal

pub redirects_to-requires : goal.redirects_to-requires
redirects_to-requires c =
    let there = subst (λ (p : PageView). SlotIsThere p.slots c.args.number) (sym c.self.view_is) c.requires in
    let long = length-slots_in c.self.inside.sheet.count c.self.inside.sheet.bytes in
    omega (arith, there.0, there.1)

pub returns : goal.returns
returns c =
    let there = subst (λ (p : PageView). SlotIsThere p.slots c.args.number) (sym c.self.view_is) c.requires in
    let at = the_slot-in c.self.inside.sheet.count c.self.inside.sheet.bytes c.args.number there in
    rw (← c.self.view_is) (c.redirects_to.ensures ∙ ap (λ i. redirects_to c.args.target (slot_in c.self.inside.sheet.bytes (i - 1))) c.from.ensures ∙ sym (ap (redirects_to c.args.target) at))
