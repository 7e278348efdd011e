use Rattle.std.proofs.Common.{◌-◌, ◌≤◌}
use Rattle.space_maps.specs.FreeSpace.{NoByte}
use Rattle.space_maps.proofs.free_map.pass_runs.Given as goal

abbrev pub invariant-loop-start : goal.invariant-loop-start
invariant-loop-start l = (l.fn.from ≤ l.start) × NoByte l.bytes l.fn.from l.start l.least

abbrev pub decreases-loop-start : goal.decreases-loop-start
decreases-loop-start l = l.to - l.start
