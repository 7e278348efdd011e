use Rattle.prune.proofs.Planned.{IsListing}
use Rattle.prune.proofs.planning.list_actions.Given as goal

abbrev pub invariant-loop-number : goal.invariant-loop-number
invariant-loop-number l = IsListing l.statuses l.fn.horizon.0 l.page.slots l.doubtful l.marks l.actions.items l.number-index
