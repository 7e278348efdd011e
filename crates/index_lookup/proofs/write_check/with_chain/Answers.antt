use Rattle.std.proofs.Common.{ℕ, List, sym, subst, ◌∙◌}
use Rattle.index_lookup.specs.Pages.{page_slots_of}
use Rattle.visibility.specs.Reading.{IsSeenBy, IsOtherWriterFor, IsNewerCommitFor}
use Rattle.index_lookup.specs.Looking.{SeenAt, IsPlaceIn, IsPlaceAmong, IsIdIn, IsIdAmong, IsIdAt, IsKept}
use Rattle.index_lookup.proofs.Among.{at-page, at-nowhere}
use Rattle.index_lookup.proofs.Fetching.{fetched-nowhere}
use Rattle.index_lookup.proofs.Searching.{kept-same, kept-map, place-on_page}
use Rattle.index_lookup.proofs.Versions.{place-alone, id-alone}
use Rattle.index_lookup.proofs.write_check.with_chain.Goals as goal

pub returns-in-None : goal.returns-in-None
returns-in-None c =
    let w = c.args.reader.now.statuses.now in
    let seen = IsSeenBy c.args.reader.now in
    let Newer = IsNewerCommitFor c.args.reader.now in
    let Other = IsOtherWriterFor c.args.reader.now in
    let pages = c.args.pages.now in
    let none = sym c.in-None.ensures in
    record {
      place = kept-same c.args.before.place (SeenAt w seen (page_slots_of pages) c.args.root) (fetched-nowhere w seen pages.pages c.args.root none);
      newer_commit = kept-same c.args.before.newer_commit (IsIdAt w Newer (page_slots_of pages) c.args.root) (at-nowhere w Newer pages.pages c.args.root none);
      other_writer = kept-same c.args.before.other_writer (IsIdAt w Other (page_slots_of pages) c.args.root) (at-nowhere w Other pages.pages c.args.root none);
    }

-- the version at the root is the whole chain
pub returns-in-Some-header : goal.returns-in-Some-header
returns-in-Some-header c =
    let w = c.args.reader.now.statuses.now in
    let seen = IsSeenBy c.args.reader.now in
    let Newer = IsNewerCommitFor c.args.reader.now in
    let Other = IsOtherWriterFor c.args.reader.now in
    let pages = c.args.pages.now in
    let root = c.args.root in
    let page = c.in-Some.page.now in
    let h = c.in-Some-header.header in
    let there = sym c.in-Some.ensures in
    let at = sym c.header.ensures.value ∙ c.in-Some-header.is in
    let alone = sym c.is_hot_updated.ensures ∙ c.if-not-is_hot_updated.true in
    let after = c.with_version.result in
    record {
      place = kept-map c.args.before.place after.place (IsPlaceIn seen root h) (SeenAt w seen (page_slots_of pages) root) (place-alone w seen pages.pages root page h after.place there at alone)
          c.with_version.ensures.place;
      newer_commit = kept-map c.args.before.newer_commit after.newer_commit (IsIdIn Newer h) (IsIdAt w Newer (page_slots_of pages) root)
          (id-alone w Newer pages.pages root page h after.newer_commit there at alone) c.with_version.ensures.newer_commit;
      other_writer = kept-map c.args.before.other_writer after.other_writer (IsIdIn Other h) (IsIdAt w Other (page_slots_of pages) root)
          (id-alone w Other pages.pages root page h after.other_writer there at alone) c.with_version.ensures.other_writer;
    }

-- the chain is listed
pub returns-in_default : goal.returns-in_default
returns-in_default c =
    let w = c.args.reader.now.statuses.now in
    let seen = IsSeenBy c.args.reader.now in
    let Newer = IsNewerCommitFor c.args.reader.now in
    let Other = IsOtherWriterFor c.args.reader.now in
    let pages = c.args.pages.now in
    let root = c.args.root in
    let page = c.in-Some.page.now in
    let there = sym c.in-Some.ensures in
    let chain = c.list_chain.new.visited.items in
    let before = c.args.before in
    let after = c.with_versions.result in
    let listed = c.as_slice.ensures.value in
    record {
      place = kept-map before.place after.place (IsPlaceAmong seen root.page page.slots chain) (SeenAt w seen (page_slots_of pages) root)
          (place-on_page w seen pages.pages root page chain after.place there c.list_chain.ensures)
          (subst (λ (slots : List ℕ). IsKept before.place (IsPlaceAmong seen root.page page.slots slots) after.place) listed c.with_versions.ensures.place);
      newer_commit = kept-map before.newer_commit after.newer_commit (IsIdAmong Newer page.slots chain) (IsIdAt w Newer (page_slots_of pages) root)
          (at-page w Newer pages.pages root page chain after.newer_commit there c.list_chain.ensures)
          (subst (λ (slots : List ℕ). IsKept before.newer_commit (IsIdAmong Newer page.slots slots) after.newer_commit) listed c.with_versions.ensures.newer_commit);
      other_writer = kept-map before.other_writer after.other_writer (IsIdAmong Other page.slots chain) (IsIdAt w Other (page_slots_of pages) root)
          (at-page w Other pages.pages root page chain after.other_writer there c.list_chain.ensures)
          (subst (λ (slots : List ℕ). IsKept before.other_writer (IsIdAmong Other page.slots slots) after.other_writer) listed c.with_versions.ensures.other_writer);
    }
