use Rattle.stories.proofs.ToldLemmas.{ToldSoFar}
use Rattle.stories.proofs.story.tell_lines.Given as goal

abbrev pub invariant-loop-done : goal.invariant-loop-done
invariant-loop-done g l = ToldSoFar l.initial.engine l.engine (g.R.Read.remaining l.initial.reader) (g.R.Read.remaining l.reader) l.initial.pending l.pending
    (g.W.Write.contents l.initial.writer) (g.W.Write.contents l.writer) l.initial.items.items l.items.items l.initial.told.items l.told.items l.done
