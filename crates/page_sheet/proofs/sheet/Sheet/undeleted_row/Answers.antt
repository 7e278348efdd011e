use Rattle.page_sheet.specs.Layout.{slot_in}
use Rattle.page_sheet.proofs.Ids.{undeleted-shown, undeleted-hidden, undeleted-absent}
use Rattle.page_sheet.proofs.sheet.Sheet.undeleted_row.Goals as goal

pub returns-then-is_undeleted_by : goal.returns-then-is_undeleted_by
returns-then-is_undeleted_by c =
    undeleted-shown (slot_in c.args.self.now.bytes c.args.index) c.in-Some.part.now c.args.inserter.0 c.is_undeleted_by.result c.row_in.result
    c.in-Some.ensures.value c.is_undeleted_by.ensures c.if-is_undeleted_by.true c.row_in.ensures

pub returns-else-is_undeleted_by : goal.returns-else-is_undeleted_by
returns-else-is_undeleted_by c =
    undeleted-hidden (slot_in c.args.self.now.bytes c.args.index) c.in-Some.part.now c.args.inserter.0 c.is_undeleted_by.result
    c.in-Some.ensures.value c.is_undeleted_by.ensures c.if-is_undeleted_by.false

pub returns-in-None : goal.returns-in-None
returns-in-None c = undeleted-absent (slot_in c.args.self.now.bytes c.args.index) c.args.inserter.0 c.in-None.ensures
