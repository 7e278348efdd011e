use Rattle.std.proofs.Common.{◌≡◌, ◌≤◌, ℕ, subst, arith}
use Rattle.page_sheet.specs.Packing.{IsPacked}
use Rattle.page_sheet.proofs.packing.pack.Goals as goal

pub returns : goal.returns
returns c =
    let most : c.loop-index.index ≤ c.args.count = c.loop-index.auto.index-end c.requires.within in
    let end : c.loop-index.index ≡ c.args.count = omega arith in
    subst (λ (n : ℕ). IsPacked c.args.old.now c.loop-index.bytes c.args.count n c.loop-index.upper) end c.loop-index.invariant
