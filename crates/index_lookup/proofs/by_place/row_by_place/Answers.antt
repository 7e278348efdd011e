use Rattle.std.proofs.Common.{sym, ◌∙◌}
use Rattle.visibility.specs.Reading.{IsSeenBy}
use Rattle.index_lookup.proofs.SeenLemmas.{seen-of_key, seen-of_version}
use Rattle.index_lookup.proofs.by_place.row_by_place.Goals as goal

pub returns-in-Some : goal.returns-in-Some
returns-in-Some c =
    seen-of_version (IsSeenBy c.args.reader.now) c.args.pages.now.pages c.args.place.page c.args.place.slot c.args.key c.in_ok-page.page.now c.in-Some.field-0-0
    c.in-Some.row (sym c.in_ok-page.ensures) c.in-Some.ensures.there c.in-Some.ensures.key c.in-Some.ensures.seen

pub returns-then-key : goal.returns-then-key
returns-then-key c =
    seen-of_key (IsSeenBy c.args.reader.now) c.args.pages.now.pages c.args.place.page c.match-header.slot c.args.key c.in_ok-page.page.now c.in_ok-row.row
    (sym c.in_ok-page.ensures) c.in_ok-row.ensures (sym c.key.ensures ∙ c.if-key.true)
