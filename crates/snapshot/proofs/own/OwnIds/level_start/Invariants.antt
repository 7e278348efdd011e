use Rattle.std.proofs.Common.{◌≡◌, take, reverse}
use Rattle.snapshot.proofs.LevelMarks.{start_by}
use Rattle.snapshot.proofs.own.OwnIds.level_start.Given as goal

abbrev pub invariant-loop-mark : goal.invariant-loop-mark
invariant-loop-mark l = l.start ≡ start_by l.count (reverse (take l.mark-index l.mark-items))
