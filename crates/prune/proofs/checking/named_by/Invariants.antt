use Rattle.prune.proofs.NamedLemmas.{IsNaming}
use Rattle.prune.proofs.checking.named_by.Given as goal

abbrev pub invariant-loop-action : goal.invariant-loop-action
invariant-loop-action l = IsNaming l.actions l.named l.action-index
