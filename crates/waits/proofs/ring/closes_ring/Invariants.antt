use Rattle.std.proofs.Common.{◌-◌}
use Rattle.arrayvec.specs.ArrayVec.{array_vec_len}
use Rattle.waits.proofs.Rings.{Walk}
use Rattle.waits.specs.View.{wait_in}
use Rattle.waits.proofs.ring.closes_ring.Given as goal

abbrev pub invariant-walk : goal.invariant-walk
invariant-walk l = Walk (wait_in l.waits) l.s l.o l.seen.items l.at

abbrev pub decreases-walk : goal.decreases-walk
decreases-walk l = 256 - array_vec_len l.seen
