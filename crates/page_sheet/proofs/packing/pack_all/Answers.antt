use Rattle.std.proofs.Common.{◌≡◌, ℕ, List, sym, subst}
use Rattle.page_sheet.specs.Packing.{IsPacked}
use Rattle.page_sheet.proofs.RunLemmas.{packed-run}
use Rattle.page_sheet.proofs.packing.pack_all.Goals as goal

pub pack-requires-clause-packed : goal.pack-requires-clause-packed
pack-requires-clause-packed c =
    let same : c.close_hole.new.bytes ≡ c.args.bytes.now = c.in-None.ensures in
    subst (λ (x : List ℕ). IsPacked x x c.args.count c.run_from-first.result.0 c.run_from-first.result.1) (sym same)
    (packed-run c.args.bytes.now c.args.count c.run_from-first.result.0 c.run_from-first.result.1 c.requires.sound c.run_from-first.ensures.bound c.run_from-first.ensures.run)
