use Rattle.std.proofs.Common.{◌≡◌, take, drop, map, ◌++◌, not, nat_eq}
use Rattle.history.specs.Cursors.{kept_where}
use Rattle.waits.proofs.waits.wake_all.Given as goal

abbrev pub invariant-loop-wait : goal.invariant-loop-wait
invariant-loop-wait l = l.waits ≡ map (kept_where (λ o. not (nat_eq o l.s))) (take l.wait-index l.fn.waits) ++ drop l.wait-index l.fn.waits
