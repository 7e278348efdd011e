use Rattle.std.proofs.Common.{◌≡◌, take}
use Rattle.history.specs.Cursors.{keys_of}
use Rattle.judge.proofs.handing.are_keys_of.Given as goal

abbrev pub invariant-loop-i : goal.invariant-loop-i
invariant-loop-i l = take l.i l.keys ≡ keys_of (take l.i l.rows)
