use Rattle.viewing.proofs.ExplainingLemmas.{ArePlaced}
use Rattle.viewing.proofs.explaining.places_of.Given as goal

abbrev pub invariant-loop : goal.invariant-loop
invariant-loop l = ArePlaced l.engine.engine.core l.key l.places.items l.next l.counter
