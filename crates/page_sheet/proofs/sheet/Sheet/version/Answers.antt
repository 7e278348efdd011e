use Rattle.std.proofs.Common.{◌≡◌, sym, ap, ◌∙◌, subst, List, ℕ, length}
use Rattle.page_layout.specs.Layout.{part_of}
use Rattle.page_sheet.specs.Standing.{IsVersionAt}
use Rattle.page_sheet.specs.Sheet.{SheetView}
use Rattle.page_sheet.proofs.Shown.{version-shown, none-shown, extent-good}
use Rattle.page_sheet.proofs.sheet.Sheet.version.Goals as goal

pub returns-in-Normal : goal.returns-in-Normal
returns-in-Normal c =
    let seen : c.args.self.now.bytes ≡ c.self.inside.bytes = ap (λ (s : SheetView). s.bytes) (sym c.self.view_is) in
    let good = extent-good c.args.self.now.bytes c.args.self.now.count c.pointer.result c.in-Normal.extent c.pointer.ensures.good c.in-Normal.is in
    let at = version-shown c.args.self.now.bytes c.args.index c.in-Normal.extent (ap length seen ∙ c.self.invariant.0.long) good (sym c.in-Normal.is ∙ c.pointer.ensures.value) in
    let same = ap (λ (b : List ℕ). part_of b c.in-Normal.extent) seen in
    subst (IsVersionAt c.args.self.now.bytes c.args.index) (same ∙ sym c.part.ensures) at

pub returns-in_default : goal.returns-in_default
returns-in_default c = none-shown c.args.self.now.bytes c.args.index c.pointer.result c.pointer.ensures.value c.in_default.not-Normal
