use Rattle.std.proofs.Common.{◌∙◌, sym, ap, arith}
use Rattle.std.specs.Option.{option_map}
use Rattle.tuple_header.specs.Version.{Version}
use Rattle.page_sheet.specs.Slots.{version_of}
use Rattle.page_sheet.specs.Layout.{slot_in}
use Rattle.page_sheet.proofs.Found.{version_at-found, version_at-missing, is-there, some-mapped}
use Rattle.page_slots.proofs.page.Page.header.Goals as goal

pub returns-then-index-len-clause-value : goal.returns-then-index-len-clause-value
returns-then-index-len-clause-value c =
    let at = version_at-found c.self.inside.sheet.count c.self.inside.sheet.bytes c.args.number c.in_ok-index.index c.in_ok-index.ensures (omega arith) in
    rw (← c.self.view_is) (c.header.ensures.value ∙ sym (ap (option_map (λ (t : Version). t.header)) at))

pub returns-then-index-len-clause-there : goal.returns-then-index-len-clause-there
returns-then-index-len-clause-there c =
    let there = is-there c.self.inside.sheet.count c.self.inside.sheet.bytes c.args.number c.in_ok-index.index c.in_ok-index.ensures (omega arith) in
    rw (← c.self.view_is) (λ _. there)

pub returns-then-index-len-clause-normal : goal.returns-then-index-len-clause-normal
returns-then-index-len-clause-normal c =
    let at = version_at-found c.self.inside.sheet.count c.self.inside.sheet.bytes c.args.number c.in_ok-index.index c.in_ok-index.ensures (omega arith) in
    rw (← c.self.view_is) (rw (at, c.header.ensures.value) (some-mapped (λ t. t.header) (version_of (slot_in c.self.inside.sheet.bytes c.in_ok-index.index))))

pub returns-else-index-len-clause-value : goal.returns-else-index-len-clause-value
returns-else-index-len-clause-value c =
    let at = version_at-missing c.self.inside.sheet.count c.self.inside.sheet.bytes c.args.number c.in_ok-index.index c.in_ok-index.ensures (omega arith) in
    rw (← c.self.view_is) (sym (ap (option_map (λ (t : Version). t.header)) at))

pub returns-else-index-len-clause-normal : goal.returns-else-index-len-clause-normal
returns-else-index-len-clause-normal c =
    let at = version_at-missing c.self.inside.sheet.count c.self.inside.sheet.bytes c.args.number c.in_ok-index.index c.in_ok-index.ensures (omega arith) in
    rw (← c.self.view_is) (rw at (λ none. none, λ none. none))
