use Rattle.prune.proofs.Cuts.{IsCutPrefix}
use Rattle.prune.proofs.marks.cut_count.Given as goal

abbrev pub invariant-loop-i : goal.invariant-loop-i
invariant-loop-i l = IsCutPrefix l.statuses l.horizon.0 l.page.slots l.chain l.i l.cut
