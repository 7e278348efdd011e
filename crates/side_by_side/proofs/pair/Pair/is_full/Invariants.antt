use Rattle.side_by_side.specs.Rooms.{AreFull}
use Rattle.side_by_side.proofs.pair.Pair.is_full.Given as goal

abbrev pub invariant-loop-number : goal.invariant-loop-number
invariant-loop-number l = AreFull l.self.engine.engine.core.heap.pages.pages l.number l.size
