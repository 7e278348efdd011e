use Rattle.std.proofs.Common.{false, ◌≡◌, ◌≤◌, Some, rules, length, ap, sym, refl, subst, slice_get, set, ◌∙◌}
use Rattle.std.proofs.iter.Serving.{serving}
use Rattle.std.proofs.lemmas.List.{set-set}
use Rattle.std.proofs.lemmas.Option.{slice_get_within}
use Rattle.tuple_header.specs.Version.{rounded_size_of}
use Rattle.page_slots.specs.View.{PageView}
use Rattle.page_sheet.specs.Slots.{IsNormalAt, room_of, free_number}
use Rattle.tuple_writes.specs.Writes.{with_updated}
use Rattle.heap_pages.specs.View.{PagesView}
use Rattle.prune.specs.Actions.{CanApply, applied}
use Rattle.heap_write.specs.Heap.{HeapView, page_on}
use Rattle.heap_write.specs.Steps.{IsPlanAround, with_applied}
use Rattle.heap_write.specs.Writes.{HotUpdates}
use Rattle.heap_write.specs.contracts.heap.HeapState.{the_view}
use Rattle.heap_write.proofs.PageLemmas.{page-at}
use Rattle.heap_write.proofs.PlaceLemmas.{at-set}
use Rattle.heap_write.proofs.Replacing.{UpdatesHere, replaces-pruned}
use Rattle.heap_write.proofs.Plans.{applied-slots, applied-unflagged}
use Rattle.heap_write.proofs.HintLemmas.{hints-taken, hints-applied, hints-replaced}
use Rattle.heap_write.proofs.heap.HeapState.hot_update_on_pruned.Goals as goal

pub write-slot-requires-clause-ready : goal.write-slot-requires-clause-ready
write-slot-requires-clause-ready c =
    let place = c.args.place in
    let actions = c.args.actions.now in
    let size = rounded_size_of c.args.row.now in
    let pages = c.self.inside.pages.pages in
    let h = the_view c.self.inside in
    let around : IsPlanAround h place actions = subst (λ (h : HeapView). IsPlanAround h place actions) (sym c.self.view_is) c.requires.around in
    let fits : size ≤ room_of (applied actions (page_on h place.page)).slots =
    subst (λ (h : HeapView). size ≤ room_of (applied actions (page_on h place.page)).slots) (sym c.self.view_is) c.requires.fits in
    let same : (page : PageView) → slice_get pages place.page ≡ Some page → (applied actions (page_on h place.page)).slots ≡ (applied actions (record page { flag = false })).slots =
    λ page at. applied-slots actions (page_on h place.page) (record page { flag = false }) (ap (λ (p : PageView). p.slots) (page-at pages place.page page at)) in
    let can : (page : PageView) → slice_get pages place.page ≡ Some page → CanApply (length page.slots) actions =
    λ page at. subst (λ (p : PageView). CanApply (length p.slots) actions) (page-at pages place.page page at) around.can_apply in
    let version : (page : PageView) → slice_get pages place.page ≡ Some page → IsNormalAt (applied actions (record page { flag = false })).slots place.slot =
    λ page at. subst (λ slots. IsNormalAt slots place.slot) (same page at) around.stays in
    let room : (page : PageView) → slice_get pages place.page ≡ Some page → size ≤ room_of (applied actions (record page { flag = false })).slots =
    λ page at. subst (λ slots. size ≤ room_of slots) (same page at) fits in
    grind serving

pub returns-clause-replaces : goal.returns-clause-replaces
returns-clause-replaces c =
    let h = the_view c.self.inside in
    let place = c.args.place in
    let x = c.take_ids-x.result.0 in
    let row = c.args.row.now in
    let actions = c.args.actions.now in
    let e = c.write-slot.ensures.writes in
    let pruned = applied actions (record e.0 { flag = false }) in
    let adds : UpdatesHere pruned e.1 place x row = search rules in
    let within : free_number pruned.slots ≤ 291 = search rules in
    let h' : HeapView = record { pages = c.write-slot.new.self; statuses = c.take_ids-x.new.statuses; indexes = c.self.inside.indexes; max_pages = c.self.inside.max_pages } in
    subst (λ (v : HeapView). HotUpdates (with_applied v place.page actions) h' place x row) c.self.view_is
    (replaces-pruned h h' place x row actions e.0 e.1 e.2 adds within (ap (λ (p : PagesView). p.pages) e.4) (ap (λ (p : PagesView). p.marks) e.4) (record { entries = λ n. refl; since = λ n. refl }))

pub invariant_of-self : goal.invariant_of-self
invariant_of-self c =
    let w = c.take_ids-x.new.statuses in
    let place = c.args.place in
    let n = place.page in
    let taken = c.take_ids-x in
    let x = taken.result.0 in
    let row = c.args.row.now in
    let actions = c.args.actions.now in
    let pages = c.self.inside.pages.pages in
    let e = c.write-slot.ensures.writes in
    let pruned = applied actions e.0 in
    let unflagged = applied actions (record e.0 { flag = false }) in
    let adds : UpdatesHere unflagged e.1 place x row = search rules in
    let around : IsPlanAround (the_view c.self.inside) place actions = subst (λ (h : HeapView). IsPlanAround h place actions) (sym c.self.view_is) c.requires.around in
    let is = page-at pages n e.0 e.2 in
    let can : CanApply (length e.0.slots) actions = subst (λ (p : PageView). CanApply (length p.slots) actions) is around.can_apply in
    let there : IsNormalAt pruned.slots place.slot = subst (λ (p : PageView). IsNormalAt (applied actions p).slots place.slot) is around.stays in
    let given = hints-taken c.self.inside.statuses w c.args.own.now taken.new.own x pages c.self.inside.hints.pages taken.ensures.takes taken.ensures.window c.self.invariant.1 in
    let done = hints-applied w pages (set pages n pruned) c.self.inside.hints.pages n actions e.0 e.2 refl can given in
    let slots : e.1.slots ≡ with_updated pruned.slots place.slot x n row = subst (λ (p : PageView). e.1.slots ≡ with_updated p.slots place.slot x n row) (applied-unflagged actions e.0) adds.slots in (
      c.self.invariant.0,
      hints-replaced w x place row (set pages n pruned) c.write-slot.new.self.pages pruned e.1 c.self.inside.hints.pages c.expect_write.new.hints.pages
          (at-set pages n pruned (slice_get_within pages n e.0 e.2)) (ap (λ (p : PagesView). p.pages) e.4 ∙ sym (set-set pages n pruned e.1)) slots there c.expect_write.ensures done,
    )
