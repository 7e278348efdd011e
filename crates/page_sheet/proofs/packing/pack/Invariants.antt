use Rattle.page_sheet.specs.Packing.{IsPacked}
use Rattle.page_sheet.proofs.packing.pack.Given as goal

abbrev pub invariant-loop-index : goal.invariant-loop-index
invariant-loop-index l = IsPacked l.old l.bytes l.count l.index l.upper
