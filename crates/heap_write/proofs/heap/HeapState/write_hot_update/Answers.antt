use Rattle.std.proofs.Common.{true, false, ◌≡◌, ◌≤◌, Some, rules, ap, sym, refl, subst, slice_get}
use Rattle.std.proofs.iter.Serving.{serving}
use Rattle.tuple_header.specs.Version.{rounded_size_of}
use Rattle.page_slots.specs.View.{PageView}
use Rattle.page_sheet.specs.Slots.{IsNormalAt, room_of, free_number, next_change}
use Rattle.tuple_writes.specs.Writes.{with_updated, replaced_change, AddsToPage}
use Rattle.heap_pages.specs.View.{PagesView}
use Rattle.heap_write.specs.Heap.{HeapView, page_on}
use Rattle.heap_write.specs.Writes.{HotUpdates}
use Rattle.heap_write.specs.contracts.heap.HeapState.{the_view}
use Rattle.heap_write.proofs.Writing.{replaces-here}
use Rattle.heap_write.specs.Refusals.{VersionIsThere}
use Rattle.heap_write.proofs.PageLemmas.{page-at, there-at}
use Rattle.heap_write.proofs.HintLemmas.{hints-taken, hints-replaced}
use Rattle.heap_write.proofs.heap.HeapState.write_hot_update.Goals as goal

pub write-slot-requires-clause-ready : goal.write-slot-requires-clause-ready
write-slot-requires-clause-ready c =
    let place = c.args.place in
    let h = the_view c.self.inside in
    let size = rounded_size_of c.args.row.now in
    let there : VersionIsThere h place = subst (λ (h : HeapView). VersionIsThere h place) (sym c.self.view_is) c.requires.may.there in
    let has_room : size ≤ room_of (page_on h place.page).slots = subst (λ (h : HeapView). size ≤ room_of (page_on h place.page).slots) (sym c.self.view_is) c.requires.room in
    let version : (page : PageView) → slice_get c.self.inside.pages.pages place.page ≡ Some page → IsNormalAt page.slots place.slot = λ page at. there-at h place page there at in
    let room : (page : PageView) → slice_get c.self.inside.pages.pages place.page ≡ Some page → size ≤ room_of page.slots =
    λ page at. subst (λ (p : PageView). size ≤ room_of p.slots) (page-at h.pages.pages place.page page at) has_room in
    grind serving

pub returns-clause-replaces : goal.returns-clause-replaces
returns-clause-replaces c =
    let h = the_view c.self.inside in
    let place = c.args.place in
    let x = c.take_ids-x.result.0 in
    let row = c.args.row.now in
    let e = c.write-slot.ensures.writes in
    let adds : AddsToPage (record e.0 { flag = false }) e.1 (with_updated e.0.slots place.slot x place.page row)
    (replaced_change e.0.slots place.slot x place.page (free_number e.0.slots) true (next_change e.0.change)) = search rules in
    let within : free_number e.0.slots ≤ 291 = search rules in
    let h' : HeapView = record { pages = c.write-slot.new.self; statuses = c.take_ids-x.new.statuses; indexes = c.self.inside.indexes; max_pages = c.self.inside.max_pages } in
    subst (λ (v : HeapView). HotUpdates v h' place x row) c.self.view_is
    (replaces-here h h' place x row e.0 e.1 e.2 adds within (ap (λ (p : PagesView). p.pages) e.4) (ap (λ (p : PagesView). p.marks) e.4) (record { entries = λ n. refl; since = λ n. refl }))

pub invariant_of-self : goal.invariant_of-self
invariant_of-self c =
    let place = c.args.place in
    let taken = c.take_ids-x in
    let x = taken.result.0 in
    let row = c.args.row.now in
    let e = c.write-slot.ensures.writes in
    let adds : AddsToPage (record e.0 { flag = false }) e.1 (with_updated e.0.slots place.slot x place.page row)
    (replaced_change e.0.slots place.slot x place.page (free_number e.0.slots) true (next_change e.0.change)) = search rules in
    let there : VersionIsThere (the_view c.self.inside) place = subst (λ (h : HeapView). VersionIsThere h place) (sym c.self.view_is) c.requires.may.there in
    let given = hints-taken c.self.inside.statuses taken.new.statuses c.args.own.now taken.new.own x c.self.inside.pages.pages c.self.inside.hints.pages taken.ensures.takes taken.ensures.window c.self.invariant.1 in (
      c.self.invariant.0,
      hints-replaced taken.new.statuses x place row c.self.inside.pages.pages c.write-slot.new.self.pages e.0 e.1 c.self.inside.hints.pages c.expect_write.new.hints.pages e.2 (ap (λ (p : PagesView). p.pages) e.4)
          adds.slots (there-at (the_view c.self.inside) place e.0 there e.2) c.expect_write.ensures given,
    )
