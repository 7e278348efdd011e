use Rattle.std.proofs.Common.{suc}
use Rattle.sessions.proofs.Marked.{MarksUpTo}
use Rattle.sessions.proofs.marking.mark_all.Given as goal

abbrev pub invariant-loop-s : goal.invariant-loop-s
invariant-loop-s l = MarksUpTo (suc l.column) l.s l.initial.places.items l.places.items
