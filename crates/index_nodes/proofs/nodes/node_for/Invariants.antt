use Rattle.std.proofs.Common.{◌+◌, map}
use Rattle.index_entries.specs.Lists.{IsLastBetween}
use Rattle.index_nodes.proofs.nodes.node_for.Given as goal

-- the node stands among so many from this one on
abbrev pub invariant-loop-count : goal.invariant-loop-count
invariant-loop-count g l = IsLastBetween (map g.N.Node.entries l.nodes) l.sought l.low (l.low + l.count)

abbrev pub decreases-loop-count : goal.decreases-loop-count
decreases-loop-count g l = l.count
