use Rattle.std.proofs.Common.{subst, sym}
use Rattle.page_slots.specs.View.{PageView}
use Rattle.page_sheet.specs.Slots.{IsRedirected}
use Rattle.page_sheet.proofs.RedirectCounts.{redirected-there, redirected-from}
use Rattle.page_slots.proofs.page.Page.is_redirected.Goals as goal

pub returns : goal.returns
returns c =
    let bytes = c.self.inside.sheet.bytes in
    let count = c.self.inside.sheet.count in (
      λ found. subst (λ (p : PageView). IsRedirected p.slots c.args.number) c.self.view_is (redirected-there bytes count c.args.number (c.is_redirected.ensures.0 found)),
      λ leads.
          let here = subst (λ (p : PageView). IsRedirected p.slots c.args.number) (sym c.self.view_is) leads in
          c.is_redirected.ensures.1 (redirected-from bytes count c.args.number here.0 here.1),
    )
