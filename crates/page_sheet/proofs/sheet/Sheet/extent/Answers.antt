use Rattle.std.proofs.Common.{◌≡◌, ◌≤◌, sym, ap, ◌∙◌, subst, List, ℕ, length, arith}
use Rattle.page_layout.specs.Layout.{upper_in}
use Rattle.page_sheet.specs.Sheet.{SheetView}
use Rattle.page_sheet.proofs.Shown.{none-shown, extent-good}
use Rattle.page_sheet.proofs.StandingLemmas.{stands-shown}
use Rattle.page_sheet.proofs.sheet.Sheet.extent.Goals as goal

pub returns-in-Normal : goal.returns-in-Normal
returns-in-Normal c =
    let seen : c.args.self.now.bytes ≡ c.self.inside.bytes = ap (λ (s : SheetView). s.bytes) (sym c.self.view_is) in
    let good = extent-good c.args.self.now.bytes c.args.self.now.count c.pointer.result c.in-Normal.extent c.pointer.ensures.good c.in-Normal.is in
    let low : 24 ≤ upper_in c.args.self.now.bytes = subst (λ (b : List ℕ). 24 ≤ upper_in b) (sym seen) (omega (arith, c.self.invariant.0.gap)) in
    stands-shown c.args.self.now.bytes c.args.index c.in-Normal.extent (ap length seen ∙ c.self.invariant.0.long) low good (sym c.in-Normal.is ∙ c.pointer.ensures.value)

pub returns-in_default : goal.returns-in_default
returns-in_default c = none-shown c.args.self.now.bytes c.args.index c.pointer.result c.pointer.ensures.value c.in_default.not-Normal
