use Rattle.std.proofs.Common.{◌≤◌, ◌-◌, vec_len, vec_capacity}
use Rattle.index_nodes.proofs.nodes.add_nodes.Given as goal

abbrev pub invariant-loop-spare : goal.invariant-loop-spare
invariant-loop-spare g l = (vec_len l.fn.spare ≤ vec_len l.spare) × (vec_capacity l.fn.spare ≤ vec_capacity l.spare)

abbrev pub decreases-loop-spare : goal.decreases-loop-spare
decreases-loop-spare g l = l.count - vec_len l.spare
