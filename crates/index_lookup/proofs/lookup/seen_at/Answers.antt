use Rattle.std.proofs.Common.{sym, ◌∙◌}
use Rattle.visibility.specs.Reading.{IsSeenBy}
use Rattle.index_lookup.proofs.Fetching.{fetched-nowhere}
use Rattle.index_lookup.proofs.Searching.{place-on_page}
use Rattle.index_lookup.proofs.Versions.{place-alone}
use Rattle.index_lookup.proofs.lookup.seen_at.Goals as goal

pub returns-in-None : goal.returns-in-None
returns-in-None c =
    fetched-nowhere c.args.reader.now.statuses.now (IsSeenBy c.args.reader.now) c.args.pages.now.pages c.args.place (sym c.in-None.ensures)

pub returns-in-Some-header : goal.returns-in-Some-header
returns-in-Some-header c =
    place-alone c.args.reader.now.statuses.now (IsSeenBy c.args.reader.now) c.args.pages.now.pages c.args.place c.in-Some.page.now c.in-Some-header.header c.place_in.result
    (sym c.in-Some.ensures) (sym c.header.ensures.value ∙ c.in-Some-header.is) (sym c.is_hot_updated.ensures ∙ c.if-not-is_hot_updated.true) c.place_in.ensures

pub returns-in_default : goal.returns-in_default
returns-in_default c =
    let along = c.seen_along.ensures in
    place-on_page c.args.reader.now.statuses.now (IsSeenBy c.args.reader.now) c.args.pages.now.pages c.args.place c.in-Some.page.now along.0 c.seen_along.result
    (sym c.in-Some.ensures) along.1 along.2
