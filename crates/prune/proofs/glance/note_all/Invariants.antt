use Rattle.prune.proofs.Doubting.{AreNoted}
use Rattle.prune.proofs.glance.note_all.Given as goal

abbrev pub invariant-loop-number : goal.invariant-loop-number
invariant-loop-number l = AreNoted l.noted l.numbers l.number-index
