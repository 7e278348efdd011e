use Rattle.std.proofs.Common.{◌∙◌, sym, ap, arith}
use Rattle.std.specs.Option.{option_and_then}
use Rattle.page_sheet.specs.Slots.{target_of}
use Rattle.page_sheet.proofs.Found.{found, missing, is-there}
use Rattle.page_slots.proofs.page.Page.redirect.Goals as goal

pub returns-then-index-len-clause-value : goal.returns-then-index-len-clause-value
returns-then-index-len-clause-value c =
    let at = found c.self.inside.sheet.count c.self.inside.sheet.bytes c.args.number c.in_ok-index.index c.in_ok-index.ensures (omega arith) in
    rw (← c.self.view_is) (c.redirect.ensures ∙ sym (ap (option_and_then target_of) at))

pub returns-then-index-len-clause-there : goal.returns-then-index-len-clause-there
returns-then-index-len-clause-there c =
    let there = is-there c.self.inside.sheet.count c.self.inside.sheet.bytes c.args.number c.in_ok-index.index c.in_ok-index.ensures (omega arith) in
    rw (← c.self.view_is) (λ _. there)

pub returns-else-index-len-clause-value : goal.returns-else-index-len-clause-value
returns-else-index-len-clause-value c =
    let at = missing c.self.inside.sheet.count c.self.inside.sheet.bytes c.args.number c.in_ok-index.index c.in_ok-index.ensures (omega arith) in
    rw (← c.self.view_is) (sym (ap (option_and_then target_of) at))
