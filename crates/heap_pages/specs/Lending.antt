-- A page with its copy, as it is lent.
use Rattle.std.specs.Borrow.{Lends, MutBor, Fml}
use Rattle.page_slots.specs.View.{PageView}
use Rattle.page_slots.specs.contracts.page.Page as page
use Rattle.heap_pages.specs.contracts.own_page.OwnPage.{the_row}

-- the page alone is changed
abbrev pub LendsPage : MutBor PageView → MutBor PageView → Fml
LendsPage p r = Lends the_row page.the_row p r (λ now. now)
