use Rattle.std.proofs.Common.{◌-◌}
use Rattle.arrayvec.specs.ArrayVec.{array_vec_len}
use Rattle.hot_chain.specs.Chain.{has_aborted, first_of, next_in_chain}
use Rattle.hot_chain.proofs.Walks.{Walk}
use Rattle.hot_chain.proofs.walk.list_chain.Given as goal

abbrev pub invariant-walk : goal.invariant-walk
invariant-walk l = Walk (next_in_chain (has_aborted l.statuses) l.page.slots) (first_of l.page.slots l.number) l.visited.items l.at

abbrev pub decreases-walk : goal.decreases-walk
decreases-walk l = 292 - array_vec_len l.visited
