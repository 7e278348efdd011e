use Rattle.std.proofs.Common.{◌-◌, sym, ap, ◌∙◌}
use Rattle.page_slots.specs.View.{PageView}
use Rattle.page_sheet.specs.Slots.{redirects_to, the_slot}
use Rattle.page_slots.proofs.Numbered.{IsNumbered, numbered}
use Rattle.page_slots.proofs.page.Page.set_redirect.Goals as goal
use Rattle.page_slots.proofs.page.Page.set_redirect.Goals.{After-from}

at : (c : After-from) → IsNumbered c.self.inside.sheet.count c.self.inside.sheet.bytes c.args.number (c.from.result - 1)
at c =
    numbered c.args.self.now.slots c.self.inside.sheet.count c.self.inside.sheet.bytes c.args.number c.from.result
    (ap (λ (p : PageView). p.slots) c.self.view_is) c.from.ensures c.requires.there

pub redirects_to-same-requires : goal.redirects_to-same-requires
redirects_to-same-requires c = (at (goal.at.redirects_to-same-requires c).After-from).within

pub returns : goal.returns
returns c =
    let same = ap (redirects_to c.args.target) (at (goal.at.returns c).After-from).named ∙ sym c.redirects_to-same.ensures in
    let seen = ap (λ (p : PageView). (redirects_to c.args.target) (the_slot p.slots c.args.number)) (sym c.self.view_is) in
    rw (seen, same) c.put.ensures
