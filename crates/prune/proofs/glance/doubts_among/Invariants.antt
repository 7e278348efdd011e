use Rattle.prune.proofs.Doubting.{AreDoubtsUpTo}
use Rattle.prune.proofs.glance.doubts_among.Given as goal

abbrev pub invariant-loop-number : goal.invariant-loop-number
invariant-loop-number l = AreDoubtsUpTo l.statuses l.page.slots l.doubtful l.number-index l.doubts
