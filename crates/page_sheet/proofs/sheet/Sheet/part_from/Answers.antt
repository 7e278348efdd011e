use Rattle.std.proofs.Common.{◌≡◌, sym, ap, ◌∙◌, List, ℕ, length}
use Rattle.page_layout.specs.Layout.{part_of}
use Rattle.page_sheet.specs.Sheet.{SheetView}
use Rattle.page_sheet.proofs.Shown.{extent-good}
use Rattle.page_sheet.proofs.StandingLemmas.{begins-shown}
use Rattle.page_sheet.proofs.sheet.Sheet.part_from.Goals as goal

pub returns-in-Normal : goal.returns-in-Normal
returns-in-Normal c =
    let seen : c.args.self.now.bytes ≡ c.self.inside.bytes = ap (λ (s : SheetView). s.bytes) (sym c.self.view_is) in
    let good = extent-good c.args.self.now.bytes c.args.self.now.count c.pointer.result c.in-Normal.extent c.pointer.ensures.good c.in-Normal.is in
    let same = ap (λ (b : List ℕ). part_of b (record { from = c.args.from; len = c.in-Normal.extent.len })) (sym seen) in
    begins-shown c.args.self.now.bytes c.args.index c.args.from c.in-Normal.extent c.part.result.now (ap length seen ∙ c.self.invariant.0.long) good
    (sym c.in-Normal.is ∙ c.pointer.ensures.value) c.if-extent-from.true (c.part.ensures ∙ same)
