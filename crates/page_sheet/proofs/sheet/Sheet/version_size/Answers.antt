use Rattle.std.proofs.Common.{◌≡◌, sym, ap, ◌∙◌, length}
use Rattle.page_sheet.specs.Sheet.{SheetView}
use Rattle.page_layout.specs.declared.pointer.Pointer.TheVariants as pointer
use Rattle.page_sheet.specs.Slots.{bytes_taken}
use Rattle.page_sheet.proofs.Shown.{shown, extent-good, taken-shown}
use Rattle.page_sheet.proofs.sheet.Sheet.version_size.Goals as goal

pub returns-in-Unused : goal.returns-in-Unused
returns-in-Unused c = sym (ap bytes_taken (shown c.args.self.now.bytes c.args.index (pointer.Unused) (sym c.in-Unused.is ∙ c.pointer.ensures.value)))

pub returns-in-Normal : goal.returns-in-Normal
returns-in-Normal c =
    let seen : c.args.self.now.bytes ≡ c.self.inside.bytes = ap (λ (s : SheetView). s.bytes) (sym c.self.view_is) in
    let good = extent-good c.args.self.now.bytes c.args.self.now.count c.pointer.result c.in-Normal.extent c.pointer.ensures.good c.in-Normal.is in
    let size = taken-shown c.args.self.now.bytes c.args.index c.in-Normal.extent (ap length seen ∙ c.self.invariant.0.long) good (sym c.in-Normal.is ∙ c.pointer.ensures.value) in
    cc

pub returns-in-Redirect : goal.returns-in-Redirect
returns-in-Redirect c = sym (ap bytes_taken (shown c.args.self.now.bytes c.args.index (pointer.Redirect c.in-Redirect._target) (sym c.in-Redirect.is ∙ c.pointer.ensures.value)))

pub returns-in-Dead : goal.returns-in-Dead
returns-in-Dead c = sym (ap bytes_taken (shown c.args.self.now.bytes c.args.index (pointer.Dead) (sym c.in-Dead.is ∙ c.pointer.ensures.value)))
