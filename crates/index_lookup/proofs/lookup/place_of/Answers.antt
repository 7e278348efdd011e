use Rattle.std.proofs.Common.{None, subst, to_z, of_z}
use Rattle.std.specs.Int.{w128}
use Rattle.std.proofs.lemmas.Int.{to_z-of_z}
use Rattle.index_lookup.specs.Pages.{page_slots_of}
use Rattle.visibility.specs.Reading.{IsSeenBy}
use Rattle.index_lookup.specs.Looking.{IsNextOf}
use Rattle.index_lookup.proofs.Fetching.{place-from_first, no-place}
use Rattle.index_lookup.proofs.lookup.place_of.Goals as goal

pub returns-in-Some : goal.returns-in-Some
returns-in-Some c =
    let seen = IsSeenBy c.args.reader.now in
    let entries = c.args.table.now.index.now.entries in
    let stored = to_z w128 (of_z w128 c.args.value) in
    let least = subst (IsNextOf entries stored c.args.key None) c.in-Some.is c.begin_search-first.ensures.next in
    place-from_first c.args.reader.now.statuses.now seen (page_slots_of c.args.table.now.pages.now) entries stored c.args.value c.args.key c.in-Some.entry c.place_from.result
    (to_z-of_z w128 c.args.value c.ranges.value) least c.place_from.ensures

pub returns-in-None : goal.returns-in-None
returns-in-None c =
    let seen = IsSeenBy c.args.reader.now in
    let entries = c.args.table.now.index.now.entries in
    let stored = to_z w128 (of_z w128 c.args.value) in
    no-place c.args.reader.now.statuses.now seen (page_slots_of c.args.table.now.pages.now) entries stored c.args.value c.args.key (to_z-of_z w128 c.args.value c.ranges.value)
    (subst (IsNextOf entries stored c.args.key None) c.in-None.is c.begin_search-first.ensures.next)
