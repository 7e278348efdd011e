use Rattle.prune.proofs.NamedLemmas.{AreNamed}
use Rattle.prune.proofs.checking.prefix_of.Given as goal

abbrev pub invariant-loop-i : goal.invariant-loop-i
invariant-loop-i l = AreNamed l.named l.numbers l.i
