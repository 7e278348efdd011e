use Rattle.prune.proofs.Listing.{IsApplying}
use Rattle.prune.proofs.applying.apply_actions.Given as goal

abbrev pub invariant-loop-action : goal.invariant-loop-action
invariant-loop-action l = IsApplying l.actions l.fn.page l.page l.action-index
