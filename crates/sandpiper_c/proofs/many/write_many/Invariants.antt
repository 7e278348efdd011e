use Rattle.std.proofs.Common.{take}
use Rattle.sandpiper_c.specs.Calls.{write_of}
use Rattle.sandpiper_c.specs.Many.{AreWritten}
use Rattle.sandpiper_c.proofs.many.write_many.Given as goal

abbrev pub invariant-loop-number : goal.invariant-loop-number
invariant-loop-number l = AreWritten (write_of l.kind l.session) l.initial.table (take l.number l.rows) l.table
