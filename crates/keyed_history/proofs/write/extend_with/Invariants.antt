use Rattle.std.proofs.Common.{◌≡◌, take, ◌++◌}
use Rattle.keyed_history.proofs.write.extend_with.Given as goal

abbrev pub invariant-loop-write : goal.invariant-loop-write
invariant-loop-write l = l.writes.items ≡ l.fn.writes.items ++ take l.write-index l.later
