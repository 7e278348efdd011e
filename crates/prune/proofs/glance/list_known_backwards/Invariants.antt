use Rattle.prune.proofs.Doubting.{IsListingKnown}
use Rattle.prune.proofs.glance.list_known_backwards.Given as goal

abbrev pub invariant-loop-number : goal.invariant-loop-number
invariant-loop-number l = IsListingKnown l.statuses l.page.slots l.doubtful.items l.number

abbrev pub decreases-loop-number : goal.decreases-loop-number
decreases-loop-number l = l.number
