use Rattle.std.proofs.Common.{◌≡◌, take, replicate, None}
use Rattle.waits.proofs.waits.any_waits.Given as goal

abbrev pub invariant-loop-wait : goal.invariant-loop-wait
invariant-loop-wait l = take l.wait-index l.waits ≡ replicate l.wait-index None
