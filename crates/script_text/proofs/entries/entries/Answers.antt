use Rattle.std.proofs.Common.{arith}
use Rattle.script_text.proofs.EntryLemmas.{told_none, told_one, one_at_hand}
use Rattle.script_text.proofs.entries.entries.Goals.{in-Some+in_ok-entry_line, in_default}
use Rattle.script_text.proofs.entries.entries.Goals as goal

pub loop-init : goal.loop-init
loop-init c = told_none _ _ _ c.fact_ascending.ensures c.next_after-next.ensures

pub loop-preserved : goal.loop-preserved
loop-preserved c = elim c.match-next.branch [
  | in-Some+in_ok-entry_line w ↦
      rw (w.out-is, w.next-is) (told_one _ _ w.in-Some.one _ _ _ _ _ c.fact_ascending.ensures c.loop.invariant w.in-Some.is w.next_after-next-in-Some.ensures w.in_ok-entry_line.ensures)
  | in_default w ↦ absurd (one_at_hand _ _ _ _ _ c.loop.invariant (omega (arith, c.loop-test.true, c.loop.auto.counter-end)) w.in_default.is)
]
