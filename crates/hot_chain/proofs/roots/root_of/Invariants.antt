use Rattle.std.proofs.Common.{◌<◌, ℕ}
use Rattle.hot_chain.specs.Chain.{has_aborted, LeadsTo}
use Rattle.hot_chain.proofs.roots.root_of.Given as goal

abbrev pub invariant-loop-root : goal.invariant-loop-root
invariant-loop-root l = (r : ℕ) → r < l.root → LeadsTo (has_aborted l.statuses) l.page.slots r l.slot → ⊥
