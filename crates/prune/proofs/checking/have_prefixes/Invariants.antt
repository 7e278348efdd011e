use Rattle.std.proofs.Common.{◌≡◌, ℕ, ◌<◌, true}
use Rattle.hot_chain.specs.Chain.{is_root}
use Rattle.prune.specs.Named.{named_at}
use Rattle.prune.specs.Checks.{HasPrefix}
use Rattle.prune.proofs.checking.have_prefixes.Given as goal

abbrev pub invariant-loop-root : goal.invariant-loop-root
invariant-loop-root l = (r : ℕ) → r < l.root → is_root l.page.slots r ≡ true → HasPrefix l.statuses l.horizon.0 l.page.slots (named_at l.named) r
