use Rattle.vacuum_passes.proofs.Collecting.{IsCollecting}
use Rattle.vacuum_passes.proofs.visiting.collect.Given as goal

abbrev pub invariant-loop-slot : goal.invariant-loop-slot
invariant-loop-slot l = IsCollecting l.fn.store l.store l.dead l.number l.limit l.slot-index
