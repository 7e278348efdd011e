use Rattle.std.proofs.Common.{◌≡◌, ℕ, ◌<◌, None, get_or}
use Rattle.prune.specs.Named.{named_at}
use Rattle.prune.proofs.checking.are_unnamed.Given as goal

abbrev pub invariant-loop-number : goal.invariant-loop-number
invariant-loop-number l = (k : ℕ) → k < l.number-index → named_at l.named (get_or l.numbers k 0) ≡ None
