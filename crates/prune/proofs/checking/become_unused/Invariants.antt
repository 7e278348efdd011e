use Rattle.std.proofs.Common.{ℕ, ◌<◌, get_or}
use Rattle.prune.specs.Named.{BecomesUnused}
use Rattle.prune.proofs.checking.become_unused.Given as goal

abbrev pub invariant-loop-number : goal.invariant-loop-number
invariant-loop-number l = (k : ℕ) → k < l.number-index → BecomesUnused l.page.slots l.named (get_or l.numbers k 0)
