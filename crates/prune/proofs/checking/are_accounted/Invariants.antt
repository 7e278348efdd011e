use Rattle.std.proofs.Common.{ℕ, ◌<◌, ◌≤◌}
use Rattle.prune.specs.Named.{IsLooseRight}
use Rattle.prune.proofs.checking.are_accounted.Given as goal

abbrev pub invariant-loop-number : goal.invariant-loop-number
invariant-loop-number l = (n : ℕ) → 1 ≤ n → n < l.number → IsLooseRight l.statuses l.page.slots l.marks l.named n
