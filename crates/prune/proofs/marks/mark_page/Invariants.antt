use Rattle.prune.proofs.Roots.{IsMarkingPage}
use Rattle.prune.proofs.marks.mark_page.Given as goal

abbrev pub invariant-loop-root : goal.invariant-loop-root
invariant-loop-root l = IsMarkingPage l.statuses l.horizon.0 l.page.slots l.doubtful l.marks l.root-index
