use Rattle.std.proofs.Common.{sym}
use Rattle.visibility.specs.Reading.{IsSeenBy}
use Rattle.index_lookup.proofs.SeenLemmas.{undeleted-of_version}
use Rattle.index_lookup.proofs.by_place.undeleted_by_place.Goals as goal

pub returns-in-Some : goal.returns-in-Some
returns-in-Some c =
    undeleted-of_version (IsSeenBy c.args.reader.now) c.args.pages.now.pages c.args.root.page c.args.root.slot c.args.key c.in_ok-page.page.now c.in-Some.header
    c.in-Some.field-0-1 (sym c.in_ok-page.ensures) c.in-Some.ensures.there c.in-Some.ensures.key c.in-Some.ensures.seen c.if-header-eq0.true
