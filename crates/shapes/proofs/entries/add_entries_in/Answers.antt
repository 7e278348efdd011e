use Rattle.std.proofs.Common.{arith}
use Rattle.shapes.proofs.EntryLemmas.{shown-none, shown-one, one-at_hand}
use Rattle.shapes.proofs.entries.add_entries_in.Goals.{in-Some+in_ok-add_entry-in-Some, in-None}
use Rattle.shapes.proofs.entries.add_entries_in.Goals as goal

pub loop-init : goal.loop-init
loop-init c = shown-none c.args.page c.args.number _ _ _ c.fact_ascending.ensures c.next_after-next.ensures

pub loop-preserved : goal.loop-preserved
loop-preserved c = elim c.match-next.branch [
  | in-Some+in_ok-add_entry-in-Some w ↦
      rw (w.shapes-is, w.next-is) (shown-one c.args.page c.args.number _ _ w.in-Some.entry _ _ _ _ _ c.fact_ascending.ensures c.loop.invariant w.in-Some.is
      w.next_after-next-in-Some.ensures w.in_ok-add_entry-in-Some.ensures)
  | in-None w ↦ absurd (one-at_hand c.args.page c.args.number _ _ _ _ _ c.loop.invariant (omega (arith, c.loop-test.true, c.loop.auto.counter-end)) w.in-None.is)
]
