use Rattle.page_layout.specs.Raising.{IsRaised}
use Rattle.page_layout.proofs.raising.raise_pointers.Given as goal

abbrev pub invariant-loop-index : goal.invariant-loop-index
invariant-loop-index l = IsRaised l.fn.bytes l.bytes l.fn.first l.index l.by
