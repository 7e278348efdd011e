use Rattle.std.proofs.Common.{◌-◌, length}
use Rattle.script.specs.Pieces.{TakesText}
use Rattle.script.proofs.page_bytes.read_page.Given as goal

abbrev pub invariant-loop-pending : goal.invariant-loop-pending
invariant-loop-pending g l = TakesText (g.R.Read.remaining l.initial.reader) (g.R.Read.remaining l.reader) l.initial.pending l.pending

abbrev pub decreases-loop-pending : goal.decreases-loop-pending
decreases-loop-pending g l = 8193 - length l.pending
