use Rattle.std.proofs.Common.{◌≡◌, sym, ap, ◌∙◌, arith, ◌<◌}
use Rattle.page_sheet.specs.Sheet.{SheetView}
use Rattle.page_sheet.specs.Slots.{is_unused}
use Rattle.page_sheet.specs.Layout.{slots_in}
use Rattle.page_sheet.specs.declared.slot.Slot.TheVariants.{Unused}
use Rattle.page_sheet.proofs.FreeLemmas.{first-found, first-passed, first-none}
use Rattle.page_sheet.proofs.Sounds.{slots_in-at, length-slots_in}
use Rattle.page_sheet.proofs.sheet.Sheet.first_unused_from.Goals as goal

pub returns-then-is_unused-clause-index : goal.returns-then-is_unused-clause-index
returns-then-is_unused-clause-index c =
    let bytes = c.args.self.now.bytes in
    let count = c.args.self.now.count in
    let counted : count ≡ c.self.inside.count = ap (λ (s : SheetView). s.count) (sym c.self.view_is) in
    let within : c.loop-index.index < count = omega arith in
    first-found (slots_in count bytes) c.loop-index.index Unused c.loop-index.invariant
    (ap is_unused (slots_in-at count bytes c.loop-index.index Unused within) ∙ sym c.is_unused.ensures ∙ c.if-is_unused.true)

pub loop-index-preserved : goal.loop-index-preserved
loop-index-preserved c =
    let bytes = c.args.self.now.bytes in
    let count = c.args.self.now.count in
    let counted : count ≡ c.self.inside.count = ap (λ (s : SheetView). s.count) (sym c.self.view_is) in
    let long = length-slots_in count bytes in
    let within : c.loop-index.index < count = omega arith in
    first-passed (slots_in count bytes) c.loop-index.index Unused c.loop-index.invariant (omega arith)
    (ap is_unused (slots_in-at count bytes c.loop-index.index Unused within) ∙ sym c.is_unused.ensures ∙ c.if-is_unused.false)

pub returns-clause-index : goal.returns-clause-index
returns-clause-index c =
    let bytes = c.args.self.now.bytes in
    let count = c.args.self.now.count in
    let counted : count ≡ c.self.inside.count = ap (λ (s : SheetView). s.count) (sym c.self.view_is) in
    let long = length-slots_in count bytes in
    sym counted ∙ sym long ∙ first-none (slots_in count bytes) c.loop-index.index (omega arith) c.loop-index.invariant
