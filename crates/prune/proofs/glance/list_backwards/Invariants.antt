use Rattle.prune.proofs.Glancing.{IsGlancing}
use Rattle.prune.proofs.glance.list_backwards.Given as goal

abbrev pub invariant-loop-number : goal.invariant-loop-number
invariant-loop-number l = IsGlancing l.statuses l.page.slots l.doubtful.items l.noted l.known.0 l.number

abbrev pub decreases-loop-number : goal.decreases-loop-number
decreases-loop-number l = l.number
