use Rattle.std.proofs.Common.{◌≡◌, drop}
use Rattle.history.specs.History.{written}
use Rattle.history.specs.World.{joined}
use Rattle.plain_history.proofs.lookup.written_in.Given as goal

abbrev pub invariant-loop-level : goal.invariant-loop-level
invariant-loop-level l = written (joined l.levels) l.key ≡ written (joined (drop l.level-index l.levels)) l.key
