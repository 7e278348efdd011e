use Rattle.prune.proofs.Marking.{IsMarking}
use Rattle.prune.proofs.marks.mark_all.Given as goal

abbrev pub invariant-loop-number : goal.invariant-loop-number
invariant-loop-number l = IsMarking l.fn.marks l.numbers l.action l.marks l.number-index
