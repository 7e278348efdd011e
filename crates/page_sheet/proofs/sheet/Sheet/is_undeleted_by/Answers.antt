use Rattle.std.proofs.Common.{◌∙◌}
use Rattle.page_sheet.proofs.Ids.{undeleted-version, undeleted-bare}
use Rattle.page_sheet.proofs.sheet.Sheet.is_undeleted_by.Goals as goal

pub returns-in-Some : goal.returns-in-Some
returns-in-Some c =
    c.is_undeleted_by.ensures
    ∙ undeleted-version c.args.self.now.count c.args.self.now.bytes c.args.index c.args.inserter.0 c.in-Some.part.now c.requires c.in-Some.ensures

pub returns-in-None : goal.returns-in-None
returns-in-None c = undeleted-bare c.args.self.now.count c.args.self.now.bytes c.args.index c.args.inserter.0 c.requires c.in-None.ensures
