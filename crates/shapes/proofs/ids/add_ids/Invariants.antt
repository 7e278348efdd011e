use Rattle.shapes.proofs.IdLemmas.{IdsSoFar}
use Rattle.shapes.proofs.ids.add_ids.Given as goal

abbrev pub invariant-loop : goal.invariant-loop
invariant-loop l = IdsSoFar l.fn.engine l.engine l.id.0 l.counter l.initial.shapes.items l.shapes.items
