use Rattle.viewing.proofs.RunLemmas.{ViewProgress}
use Rattle.viewing.proofs.run.run_lines.Given as goal

abbrev pub invariant-loop-number : goal.invariant-loop-number
invariant-loop-number g l = ViewProgress l.fn.notes l.initial.engine l.engine (g.R.Read.remaining l.initial.reader) (g.R.Read.remaining l.reader) l.initial.pending l.pending
    (g.W.Write.contents l.initial.writer) (g.W.Write.contents l.writer) l.initial.text.items l.text.items l.number
