use Rattle.std.proofs.Common.{◌≡◌, take}
use Rattle.history.specs.World.{joined}
use Rattle.plain_history.proofs.lookup.joined_levels.Given as goal

abbrev pub invariant-loop-level : goal.invariant-loop-level
invariant-loop-level l = l.all ≡ joined (take l.level-index l.levels)
