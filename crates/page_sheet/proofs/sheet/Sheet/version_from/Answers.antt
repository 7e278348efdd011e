use Rattle.page_sheet.proofs.Shown.{part-faultless}
use Rattle.page_sheet.proofs.sheet.Sheet.version_from.Goals as goal

pub returns-in-Some-clause-faultless : goal.returns-in-Some-clause-faultless
returns-in-Some-clause-faultless c = part-faultless c.in-Some.part.now c.header_of.result c.in-Some.ensures.1.faultless c.header_of.ensures
