use Rattle.shared_heap.specs.Merge.{lines_in}
use Rattle.script.proofs.ReadingLemmas.{LinesRead}
use Rattle.script.proofs.threads.read_lines.Given as goal

abbrev pub invariant-loop-number : goal.invariant-loop-number
invariant-loop-number g l = LinesRead (g.R.Read.remaining l.initial.reader) (g.R.Read.remaining l.reader) l.initial.pending l.pending
    (g.W.Write.contents l.initial.writer) (g.W.Write.contents l.writer) l.text.items (lines_in l.lists.items) l.number
