use Rattle.vacuum_passes.proofs.FreedPlaces.{AreOn}
use Rattle.vacuum_passes.proofs.freeing.count_on.Given as goal

abbrev pub invariant-loop-number : goal.invariant-loop-number
invariant-loop-number l = AreOn l.places l.page l.number
