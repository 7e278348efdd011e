use Rattle.shapes.specs.Shapes.{IsPageHead, AreSlots, AreEntries}
use Rattle.shapes.proofs.JoinedLemmas.{three-parts}
use Rattle.shapes.proofs.pages.add_page.Goals as goal

pub returns-clause-page : goal.returns-clause-page
returns-clause-page c =
    let st = c.args.engine.now.engine.core in
    let entries = rw c.in_ok-add_slots.ensures.same at c.add_entries.ensures in
    three-parts (IsPageHead st c.args.number) (AreSlots st c.args.number) (AreEntries st c.args.number) c.args.shapes.now.items c.add_head.new.shapes.items c.add_slots.new.shapes.items
    c.add_entries.new.shapes.items c.add_entries.result c.in_ok-add_head.ensures c.in_ok-add_slots.ensures.slots entries
