use Rattle.freeze.proofs.Passing.{FreezesBelow}
use Rattle.freeze.proofs.freezing.freeze_slots.Given as goal

abbrev pub invariant-loop-slot : goal.invariant-loop-slot
invariant-loop-slot l = FreezesBelow l.statuses l.cutoff.0 l.horizon.0 l.number l.fn.page l.page l.slot l.mark l.dead.items
