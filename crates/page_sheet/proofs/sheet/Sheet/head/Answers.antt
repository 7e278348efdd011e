use Rattle.std.proofs.Common.{◌≡◌, sym, ap, ◌∙◌}
use Rattle.page_sheet.specs.Sheet.{SheetView}
use Rattle.page_layout.specs.declared.pointer.Pointer.TheVariants as pointer
use Rattle.page_sheet.specs.Slots.{head_of}
use Rattle.page_sheet.proofs.Shown.{shown, empty-shown}
use Rattle.page_sheet.proofs.sheet.Sheet.head.Goals as goal

pub returns-in-Normal : goal.returns-in-Normal
returns-in-Normal c =
    let seen : c.args.self.now.bytes ≡ c.self.inside.bytes = ap (λ (s : SheetView). s.bytes) (sym c.self.view_is) in
    let is = ap head_of (shown c.args.self.now.bytes c.args.index (pointer.Normal c.in-Normal.extent) (sym c.in-Normal.is ∙ c.pointer.ensures.value)) in
    cc

pub returns-in-Redirect : goal.returns-in-Redirect
returns-in-Redirect c = sym (ap head_of (shown c.args.self.now.bytes c.args.index (pointer.Redirect c.in-Redirect.target) (sym c.in-Redirect.is ∙ c.pointer.ensures.value)))

pub returns-in_default : goal.returns-in_default
returns-in_default c = sym (empty-shown c.args.self.now.bytes c.args.index c.pointer.result c.pointer.ensures.value c.in_default.not-Normal c.in_default.not-Redirect)
