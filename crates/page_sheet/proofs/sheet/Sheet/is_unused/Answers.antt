use Rattle.std.proofs.Common.{sym, ap, ◌∙◌}
use Rattle.page_layout.specs.declared.pointer.Pointer.TheVariants as pointer
use Rattle.page_sheet.specs.Slots.{is_unused}
use Rattle.page_sheet.proofs.Shown.{shown}
use Rattle.page_sheet.proofs.sheet.Sheet.is_unused.Goals as goal

pub returns-in-Unused : goal.returns-in-Unused
returns-in-Unused c = sym (ap is_unused (shown c.args.self.now.bytes c.args.index (pointer.Unused) (sym c.in-Unused.is ∙ c.pointer.ensures.value)))

pub returns-in-Normal : goal.returns-in-Normal
returns-in-Normal c = sym (ap is_unused (shown c.args.self.now.bytes c.args.index (pointer.Normal c.in-Normal._extent) (sym c.in-Normal.is ∙ c.pointer.ensures.value)))

pub returns-in-Redirect : goal.returns-in-Redirect
returns-in-Redirect c = sym (ap is_unused (shown c.args.self.now.bytes c.args.index (pointer.Redirect c.in-Redirect._target) (sym c.in-Redirect.is ∙ c.pointer.ensures.value)))

pub returns-in-Dead : goal.returns-in-Dead
returns-in-Dead c = sym (ap is_unused (shown c.args.self.now.bytes c.args.index (pointer.Dead) (sym c.in-Dead.is ∙ c.pointer.ensures.value)))
