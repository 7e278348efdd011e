use Rattle.prune.proofs.NamedLemmas.{IsOrderSoFar}
use Rattle.prune.proofs.checking.are_in_order.Given as goal

abbrev pub invariant-loop-action : goal.invariant-loop-action
invariant-loop-action l = IsOrderSoFar l.count l.actions l.action-index l.last
