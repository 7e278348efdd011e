use Rattle.std.proofs.Common.{subst}
use Rattle.heap_pages.specs.View.{PagesView}
use Rattle.heap_pages.specs.Choice.{Promises, FindsFirstPage}
use Rattle.heap_pages.proofs.FreeSpaceLemmas.{first-found}
use Rattle.heap_pages.proofs.pages.Pages.page_for.Goals as goal

pub returns-clause-found : goal.returns-clause-found
returns-clause-found c = subst (λ (p : PagesView). FindsFirstPage p.pages (Promises c.args.size) c.find.result) c.self.view_is
    (first-found c.self.inside.free.bytes c.self.inside.pages.items c.args.size c.find.result c.self.invariant.bytes c.find.ensures.found)
