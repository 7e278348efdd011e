use Rattle.std.proofs.Common.{◌∙◌, ℕ, sym, subst, arith}
use Rattle.page_sheet.specs.Packing.{IsPacked}
use Rattle.page_sheet.specs.declared.lying.Lying.{Lying}
use Rattle.page_sheet.specs.Lying.{IsLying}
use Rattle.page_sheet.proofs.RunLemmas.{packed-run}
use Rattle.page_sheet.proofs.lying.move_together.Goals as goal

pub returns-in-InOrder : goal.returns-in-InOrder
returns-in-InOrder c =
    subst (λ (u : ℕ). IsPacked c.args.bytes.now c.args.bytes.now c.args.count c.args.count u) (sym (c.from.ensures ∙ c.u16_at.ensures))
    (packed-run c.args.bytes.now c.args.count c.args.count _ c.requires.sound (omega arith)
    (subst (λ (l : Lying). IsLying c.args.bytes.now c.args.count l) c.in-InOrder.is c.requires.lying))
