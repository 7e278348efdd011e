use Rattle.std.proofs.Common.{sym, subst, arith}
use Rattle.dead_places.specs.Marks.{HaveMarks}
use Rattle.dead_places.proofs.MarkLemmas.{some-added, mark-within, marked-added}
use Rattle.dead_places.proofs.dead_set.DeadSet.insert.Goals as goal

pub invariant_of-self : goal.invariant_of-self
invariant_of-self c =
    let adds = c.put.ensures.adds in
    let marks = c.self.inside.marks in
    let long = c.self.told in
    let some = some-added c.self.inside.tids.items c.put.new.tids.items c.args.tid adds in (
      adds.ascending,
      subst (HaveMarks c.put.new.tids.items) (sym c.note.ensures)
          (marked-added c.self.inside.tids.items c.put.new.tids.items marks c.args.tid c.len.result adds c.self.invariant.1
          (mark-within marks c.args.tid long) (omega (arith, some, c.len.ensures.value))),
    )
