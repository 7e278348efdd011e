use Rattle.std.proofs.Common.{Option, subst}
use Rattle.xid_circle.specs.declared.Tid.{Tid}
use Rattle.index_lookup.specs.Pages.{page_slots_of}
use Rattle.visibility.specs.Reading.{IsSeenBy}
use Rattle.index_lookup.specs.Looking.{FirstPlace}
use Rattle.index_lookup.proofs.Fetching.{row-found}
use Rattle.index_lookup.proofs.lookup.row_from.Goals as goal

pub returns-in-Some : goal.returns-in-Some
returns-in-Some c =
    let seen = IsSeenBy c.args.reader.now in
    let pages = page_slots_of c.args.table.now.pages.now in
    let entries = c.args.table.now.index.now.entries in
    let first = subst (λ (o : Option Tid). FirstPlace c.args.reader.now.statuses.now seen pages entries c.args.first.value c.args.first.key o) c.in-Some.is c.place_from.ensures in
    row-found c.args.reader.now.statuses.now seen pages entries c.args.first.value c.args.first.key c.in-Some.place c.row_at.result first c.row_at.ensures
