use Rattle.page_sheet.proofs.RunLemmas.{IsEdge}
use Rattle.page_sheet.proofs.packing.run_from.Given as goal

abbrev pub invariant-loop-index : goal.invariant-loop-index
invariant-loop-index l = IsEdge l.bytes l.count l.fn.first l.fn.top l.index l.edge
