use Rattle.std.proofs.Common.{ℕ, ◌<◌, ◌≤◌}
use Rattle.prune.specs.OneDoubt.{IsRedirectTo}
use Rattle.prune.proofs.one_doubt.next_redirect.Given as goal

abbrev pub invariant-loop-number : goal.invariant-loop-number
invariant-loop-number l = (l.fn.from ≤ l.number) × ((n : ℕ) → l.fn.from ≤ n → n < l.number → ¬ IsRedirectTo l.page.slots l.target n)
