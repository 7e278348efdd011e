use Rattle.std.proofs.Common.{◌-◌, ◌≤◌, length, take}
use Rattle.std.specs.Io.KnownBytes.{Appends}
use Rattle.script.proofs.output.write_out.Given as goal

abbrev pub invariant-loop-written : goal.invariant-loop-written
invariant-loop-written g l = Appends (g.W.Write.contents l.initial.writer) (g.W.Write.contents l.writer) (take l.written l.text.items) × (l.written ≤ length l.text.items)

abbrev pub decreases-loop-written : goal.decreases-loop-written
decreases-loop-written g l = length l.text.items - l.written
