use Rattle.prune.proofs.OnlyDoubt.{IsOnlyUpTo}
use Rattle.prune.proofs.one_doubt.only_doubt.Given as goal

abbrev pub invariant-loop-number : goal.invariant-loop-number
invariant-loop-number l = IsOnlyUpTo l.statuses l.page.slots l.number-items l.number-index l.only
