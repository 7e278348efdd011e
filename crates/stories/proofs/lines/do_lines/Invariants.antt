use Rattle.stories.proofs.ReadLemmas.{ReadSoFar}
use Rattle.stories.proofs.lines.do_lines.Given as goal

abbrev pub invariant-loop-done : goal.invariant-loop-done
invariant-loop-done g l = ReadSoFar l.initial.engine l.engine (g.R.Read.remaining l.initial.reader) (g.R.Read.remaining l.reader) l.initial.pending l.pending
    (g.W.Write.contents l.initial.writer) (g.W.Write.contents l.writer) l.done
