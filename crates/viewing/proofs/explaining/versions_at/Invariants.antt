use Rattle.viewing.proofs.ExplainingLemmas.{IsPart}
use Rattle.viewing.proofs.explaining.versions_at.Given as goal

abbrev pub invariant-loop-n : goal.invariant-loop-n
invariant-loop-n l = IsPart l.engine.engine.core l.s l.place l.versions.items l.n
