use Rattle.std.proofs.Common.{sym, ◌∙◌}
use Rattle.index_lookup.proofs.Fetching.{row-there, row-nowhere}
use Rattle.index_lookup.proofs.lookup.row_at.Goals as goal

pub returns-in-None : goal.returns-in-None
returns-in-None c = row-nowhere c.args.pages.now.pages c.args.place (sym c.in-None.ensures)

pub returns-in-Some : goal.returns-in-Some
returns-in-Some c = c.row.ensures.value ∙ row-there c.args.pages.now.pages c.args.place c.in-Some.page.now (sym c.in-Some.ensures)
