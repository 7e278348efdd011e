use Rattle.std.proofs.Common.{◌∙◌, sym, arith}
use Rattle.std.proofs.lemmas.Option.{none-some}
use Rattle.page_sheet.proofs.PlacingLemmas.{start-missing}
use Rattle.page_slots.proofs.Begun.{begun-version, begun-here}
use Rattle.page_slots.proofs.page.Page.version_from.Goals as goal

pub returns-then-index-len-clause-value : goal.returns-then-index-len-clause-value
returns-then-index-len-clause-value c =
    let at = begun-version c.self.inside.sheet.count c.self.inside.sheet.bytes c.args.number c.in_ok-index.index c.args.from c.version_from.result
    c.in_ok-index.ensures (omega arith) c.version_from.ensures.value in
    rw (← c.self.view_is) at

pub returns-then-index-len-clause-begins : goal.returns-then-index-len-clause-begins
returns-then-index-len-clause-begins c =
    let at = begun-here c.self.inside.sheet.count c.self.inside.sheet.bytes c.args.number c.in_ok-index.index c.args.from c.version_from.result
    c.in_ok-index.ensures (omega arith) c.version_from.ensures.value c.version_from.ensures.begins in
    rw (← c.self.view_is) at

pub returns-else-index-len-clause-begins : goal.returns-else-index-len-clause-begins
returns-else-index-len-clause-begins c =
    let none = start-missing c.self.inside.sheet.count c.self.inside.sheet.bytes c.args.number c.in_ok-index.index c.in_ok-index.ensures (omega arith) in
    rw (← c.self.view_is) (λ some. absurd (cc some), λ at. absurd (none-some c.args.from (sym none ∙ at)))
