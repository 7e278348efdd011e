use Rattle.std.proofs.Common.{◌∙◌, sym}
use Rattle.page_sheet.proofs.RunLemmas.{full-start, full-more}
use Rattle.page_sheet.proofs.packing.full_run_from.Goals as goal

pub loop-index-init : goal.loop-index-init
loop-index-init c =
    full-start c.args.bytes.now c.args.count c.args.first c.args.top c.u32_at-start.result c.requires.sound c.requires.within c.requires.page c.requires.even
    c.u32_at-start.ensures (sym c.end_in.ensures ∙ c.if-end_in-top.false)

pub loop-index-preserved : goal.loop-index-preserved
loop-index-preserved c =
    rw c.end_in-in-loop-index.ensures (full-more c.args.bytes.now c.args.count c.args.first c.args.top c.loop-index.index c.loop-index.apart c.u32_at-above.result c.u32_at-word.result
    c.requires.sound c.loop-index-test.true c.u32_at-above.ensures c.u32_at-word.ensures c.loop-index.invariant)
