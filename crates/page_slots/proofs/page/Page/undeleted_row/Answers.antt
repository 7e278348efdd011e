use Rattle.std.proofs.Common.{◌∙◌, sym, ap, arith}
use Rattle.std.specs.Option.{option_and_then}
use Rattle.page_sheet.specs.Slots.{undeleted_row}
use Rattle.page_sheet.proofs.Found.{found, missing}
use Rattle.page_slots.proofs.page.Page.undeleted_row.Goals as goal

pub returns-then-index-len : goal.returns-then-index-len
returns-then-index-len c =
    let at = found c.self.inside.sheet.count c.self.inside.sheet.bytes c.args.number c.in_ok-index.index c.in_ok-index.ensures (omega arith) in
    rw (← c.self.view_is) (c.undeleted_row.ensures ∙ sym (ap (option_and_then (undeleted_row c.args.inserter.0)) at))

pub returns-else-index-len : goal.returns-else-index-len
returns-else-index-len c =
    let gone = missing c.self.inside.sheet.count c.self.inside.sheet.bytes c.args.number c.in_ok-index.index c.in_ok-index.ensures (omega arith) in
    rw (← c.self.view_is) (sym (ap (option_and_then (undeleted_row c.args.inserter.0)) gone))
