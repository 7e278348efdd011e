use Rattle.heap_write.proofs.Plans.{empty-prunes, idle-plan_on}
use Rattle.heap_write.proofs.heap.HeapState.clean.Goals as goal

pub returns-then-knows_none_dead : goal.returns-then-knows_none_dead
returns-then-knows_none_dead c = record {
  pruned = c.args.self.now;
  prunes = empty-prunes c.args.self.now c.args.number c.args.horizon.0 c.requires.within
      (idle-plan_on c.args.self.now c.args.number c.args.horizon.0 (c.knows_none_dead.ensures c.if-knows_none_dead.true));
  freezes = c.freeze_and_note.ensures;
}
