use Rattle.std.proofs.Common.{◌≡◌, ◌+◌, ◌≤◌, take, reverse}
use Rattle.snapshot.proofs.LevelMarks.{lacks_by}
use Rattle.snapshot.proofs.own.OwnIds.unassigned_levels.Given as goal

abbrev pub invariant-loop-mark : goal.invariant-loop-mark
invariant-loop-mark l = (l.levels ≡ lacks_by l.count (reverse (take l.mark-index l.mark-items))) × (l.levels ≤ l.mark-index + 1)
