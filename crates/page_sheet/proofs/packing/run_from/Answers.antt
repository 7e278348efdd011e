use Rattle.std.proofs.Common.{◌+◌, ◌∙◌, subst, sym}
use Rattle.page_sheet.proofs.RunLemmas.{IsEdge, edge-next, edge-pass}
use Rattle.page_sheet.proofs.packing.run_from.Goals as goal
use Rattle.page_sheet.proofs.packing.run_from.Goals.{then-end_in-edge, else-end_in-edge+else-word-eq1}

pub loop-index-preserved : goal.loop-index-preserved
loop-index-preserved c = elim c.if-end_in-edge.branch [
  | then-end_in-edge w ↦ edge-next c.args.bytes.now c.args.count c.args.first c.args.top c.loop-index.index c.u32_at-word.result c.loop-index.edge c.if-end_in-edge.edge
      c.requires.sound c.loop-index-test.true c.u32_at-word.ensures c.loop-index.invariant (sym c.end_in.ensures ∙ w.if-end_in-edge.true) w.edge-is
  | else-end_in-edge+else-word-eq1 w ↦ subst (IsEdge c.args.bytes.now c.args.count c.args.first c.args.top (c.loop-index.index + 1)) (sym w.edge-is)
      (edge-pass c.args.bytes.now c.args.count c.args.first c.args.top c.loop-index.index c.u32_at-word.result c.loop-index.edge
      c.requires.sound c.loop-index-test.true c.u32_at-word.ensures c.loop-index.invariant w.if-word-eq1.false)
]
