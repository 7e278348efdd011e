use Rattle.plain_history.proofs.MakingLemmas.{AreMarked}
use Rattle.plain_history.proofs.making.mark_all.Given as goal

-- the sessions so far are marked, and no other
abbrev pub invariant-loop-s : goal.invariant-loop-s
invariant-loop-s l = AreMarked l.sessions l.index l.fn.too_new l.too_new l.s
