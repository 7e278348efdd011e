use Rattle.page_sheet.proofs.RunLemmas.{IsFull}
use Rattle.page_sheet.proofs.packing.full_run_from.Given as goal

abbrev pub invariant-loop-index : goal.invariant-loop-index
invariant-loop-index l = IsFull l.bytes l.count l.fn.first l.fn.top l.index l.apart
