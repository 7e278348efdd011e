use Rattle.std.proofs.Common.{◌∙◌, sym, ap, refl, arith}
use Rattle.std.specs.Option.{option_map}
use Rattle.tuple_header.specs.Version.{Version, size_of}
use Rattle.page_sheet.specs.Layout.{slot_in}
use Rattle.page_sheet.proofs.Found.{version_at-found, version_at-missing}
use Rattle.page_sheet.proofs.PlacingLemmas.{start-found, start-missing, start-normal, start-bare}
use Rattle.page_sheet.proofs.StandingLemmas.{some-by_length}
use Rattle.page_slots.proofs.page.Page.place.Goals as goal

pub returns-in-Some-clause-normal : goal.returns-in-Some-clause-normal
returns-in-Some-clause-normal c =
    let at = version_at-found c.self.inside.sheet.count c.self.inside.sheet.bytes c.args.number c.in_ok-index.index c.in_ok-index.ensures (omega arith) in
    let there = some-by_length (slot_in c.self.inside.sheet.bytes c.in_ok-index.index) c.in-Some.extent.len c.in-Some.ensures.size in
    rw (← c.self.view_is) (rw at (λ _. there, λ _. refl))

pub returns-in-Some-clause-size : goal.returns-in-Some-clause-size
returns-in-Some-clause-size c =
    let at = version_at-found c.self.inside.sheet.count c.self.inside.sheet.bytes c.args.number c.in_ok-index.index c.in_ok-index.ensures (omega arith) in
    rw (← c.self.view_is) (ap (option_map (λ (t : Version). size_of t.row)) at ∙ c.in-Some.ensures.size)

pub returns-in-Some-clause-start : goal.returns-in-Some-clause-start
returns-in-Some-clause-start c =
    let at = start-found c.self.inside.sheet.count c.self.inside.sheet.bytes c.args.number c.in_ok-index.index c.in_ok-index.ensures (omega arith) in
    rw (← c.self.view_is) (sym (at ∙ start-normal c.self.inside.sheet.bytes c.in_ok-index.index c.in-Some.extent c.in-Some.ensures.pointer))

pub returns-in-None-clause-normal : goal.returns-in-None-clause-normal
returns-in-None-clause-normal c =
    let at = version_at-found c.self.inside.sheet.count c.self.inside.sheet.bytes c.args.number c.in_ok-index.index c.in_ok-index.ensures (omega arith) in
    rw (← c.self.view_is) (rw (at, c.in-None.ensures) (λ none. none, λ none. none))

pub returns-in-None-clause-start : goal.returns-in-None-clause-start
returns-in-None-clause-start c =
    let at = start-found c.self.inside.sheet.count c.self.inside.sheet.bytes c.args.number c.in_ok-index.index c.in_ok-index.ensures (omega arith) in
    rw (← c.self.view_is) (sym (at ∙ start-bare c.self.inside.sheet.bytes c.in_ok-index.index c.in-None.ensures))

pub returns-else-index-len-clause-normal : goal.returns-else-index-len-clause-normal
returns-else-index-len-clause-normal c =
    let at = version_at-missing c.self.inside.sheet.count c.self.inside.sheet.bytes c.args.number c.in_ok-index.index c.in_ok-index.ensures (omega arith) in
    rw (← c.self.view_is) (rw at (λ none. none, λ none. none))

pub returns-else-index-len-clause-start : goal.returns-else-index-len-clause-start
returns-else-index-len-clause-start c =
    rw (← c.self.view_is) (sym (start-missing c.self.inside.sheet.count c.self.inside.sheet.bytes c.args.number c.in_ok-index.index c.in_ok-index.ensures (omega arith)))
