use Rattle.std.proofs.Common.{◌∙◌, sym, ap}
use Rattle.tuple_header.specs.Layout.{decoded_header}
use Rattle.tuple_header.specs.Marks.{is_heap_only}
use Rattle.page_layout.specs.declared.pointer.Pointer.TheVariants as pointer
use Rattle.page_slots.specs.Faults.{holds_heap_only}
use Rattle.page_sheet.proofs.Shown.{shown}
use Rattle.page_slots.proofs.check.holds_heap_only.Goals as goal

pub returns-in-Normal : goal.returns-in-Normal
returns-in-Normal c =
    let is = shown c.args.bytes.now c.args.index (pointer.Normal c.in-Normal.extent) (sym c.in-Normal.is ∙ c.pointer_at.ensures) in
    c.is_heap_only.ensures ∙ ap is_heap_only (c.header_of.ensures ∙ ap decoded_header c.part.ensures) ∙ sym (ap holds_heap_only is)

pub returns-in-Unused : goal.returns-in-Unused
returns-in-Unused c = sym (ap holds_heap_only (shown c.args.bytes.now c.args.index (pointer.Unused) (sym c.in-Unused.is ∙ c.pointer_at.ensures)))

pub returns-in-Redirect : goal.returns-in-Redirect
returns-in-Redirect c = sym (ap holds_heap_only (shown c.args.bytes.now c.args.index (pointer.Redirect c.in-Redirect._target) (sym c.in-Redirect.is ∙ c.pointer_at.ensures)))

pub returns-in-Dead : goal.returns-in-Dead
returns-in-Dead c = sym (ap holds_heap_only (shown c.args.bytes.now c.args.index (pointer.Dead) (sym c.in-Dead.is ∙ c.pointer_at.ensures)))
