use Rattle.std.proofs.Common.{◌≡◌, take, drop, map, ◌++◌}
use Rattle.commit_status.specs.Entries.{placed_earlier}
use Rattle.commit_status.proofs.entries.move_up.Given as goal

abbrev pub invariant-loop-child : goal.invariant-loop-child
invariant-loop-child l = l.children ≡ map (placed_earlier l.count) (take l.child-index l.fn.children) ++ drop l.child-index l.fn.children
