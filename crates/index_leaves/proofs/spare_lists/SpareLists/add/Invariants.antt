use Rattle.std.proofs.Common.{◌-◌, length, vec_len, vec_capacity}
use Rattle.std.specs.Option.{option_to_list}
use Rattle.index_leaves.proofs.ListLemmas.{IsAdding}
use Rattle.index_leaves.proofs.spare_lists.SpareLists.add.Given as goal

abbrev pub invariant-loop-self : goal.invariant-loop-self
invariant-loop-self g l =
    IsAdding l.fn.self.large l.fn.self.places l.fn.self.small l.self-inside.large.items (vec_len l.self-inside.large) (vec_capacity l.self-inside.large)
    (length (option_to_list l.self-inside.small))

abbrev pub decreases-loop-self : goal.decreases-loop-self
decreases-loop-self g l = l.count - vec_len l.self-inside.large
