use Rattle.std.proofs.Common.{ℤ, Option, subst, to_z, of_z}
use Rattle.std.specs.Int.{w128}
use Rattle.std.proofs.lemmas.Int.{to_z-of_z}
use Rattle.xid_circle.specs.declared.Tid.{Tid}
use Rattle.index_lookup.specs.Pages.{page_slots_of}
use Rattle.visibility.specs.Reading.{IsSeenBy}
use Rattle.index_lookup.specs.Looking.{IsFirstPlace, FirstPlace}
use Rattle.index_lookup.proofs.Fetching.{row-found}
use Rattle.index_lookup.proofs.lookup.row_of.Goals as goal

pub returns-in-Some : goal.returns-in-Some
returns-in-Some c =
    let seen = IsSeenBy c.args.reader.now in
    let pages = page_slots_of c.args.table.now.pages.now in
    let entries = c.args.table.now.index.now.entries in
    let first = subst (λ (o : Option Tid). FirstPlace c.args.reader.now.statuses.now seen pages entries (to_z w128 (of_z w128 c.args.value)) c.args.key o) c.in-Some.is c.place_of.ensures in
    let same = subst (λ (v : ℤ). IsFirstPlace c.args.reader.now.statuses.now seen pages entries v c.args.key c.in-Some.place) (to_z-of_z w128 c.args.value c.ranges.value) first in
    row-found c.args.reader.now.statuses.now seen pages entries c.args.value c.args.key c.in-Some.place c.row_at.result same c.row_at.ensures
