use Rattle.std.proofs.Common.{refl, sym, arith}
use Rattle.std.proofs.lemmas.Bool.{true≢false}
use Rattle.page_sheet.proofs.Found.{found, missing, is-there, not-there}
use Rattle.page_slots.proofs.page.Page.slot.Goals as goal

pub returns-then-index-len-clause-value : goal.returns-then-index-len-clause-value
returns-then-index-len-clause-value c =
    let at = found c.self.inside.sheet.count c.self.inside.sheet.bytes c.args.number c.in_ok-index.index c.in_ok-index.ensures (omega arith) in
    rw (← c.self.view_is) cc

pub returns-then-index-len-clause-there : goal.returns-then-index-len-clause-there
returns-then-index-len-clause-there c =
    let there = is-there c.self.inside.sheet.count c.self.inside.sheet.bytes c.args.number c.in_ok-index.index c.in_ok-index.ensures (omega arith) in
    rw (← c.self.view_is) (λ _. there, λ _. refl)

pub returns-else-index-len-clause-value : goal.returns-else-index-len-clause-value
returns-else-index-len-clause-value c =
    rw (← c.self.view_is) (sym (missing c.self.inside.sheet.count c.self.inside.sheet.bytes c.args.number c.in_ok-index.index c.in_ok-index.ensures (omega arith)))

pub returns-else-index-len-clause-there : goal.returns-else-index-len-clause-there
returns-else-index-len-clause-there c =
    rw (← c.self.view_is) (λ none. absurd (true≢false (sym none)), λ there. absurd (not-there c.self.inside.sheet.count c.self.inside.sheet.bytes c.args.number c.in_ok-index.index c.in_ok-index.ensures (omega arith) there))
