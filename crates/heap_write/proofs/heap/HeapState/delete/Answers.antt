use Rattle.std.proofs.Common.{◌≡◌, rules, slice_get, Some, ap, sym, refl, subst}
use Rattle.std.proofs.iter.Serving.{serving}
use Rattle.page_slots.specs.View.{PageView}
use Rattle.page_sheet.specs.Slots.{IsNormalAt}
use Rattle.std.proofs.lemmas.Bool.{iff_false}
use Rattle.heap_pages.specs.View.{PagesView}
use Rattle.heap_write.specs.Heap.{HeapView}
use Rattle.heap_write.specs.Writes.{Deletes}
use Rattle.heap_write.specs.Refusals.{VersionIsThere}
use Rattle.heap_write.specs.contracts.heap.HeapState.{the_view}
use Rattle.write_ids.proofs.IdLemmas.{takes-grown}
use Rattle.heap_write.proofs.Writing.{WritesXmax, deletes}
use Rattle.heap_write.proofs.PageLemmas.{there-at}
use Rattle.heap_write.proofs.HintLemmas.{hints-same_ids, hints-taken, hints-taken_away}
use Rattle.heap_write.proofs.heap.HeapState.delete.Goals as goal

pub returns-clause-ok : goal.returns-clause-ok
returns-clause-ok c =
    let h = the_view c.self.inside in
    let own = c.args.own.now in
    let x = c.take_ids-x.result.0 in
    let reserved = c.reserve_ids.ensures in
    let e = c.write.ensures.writes in
    let away : WritesXmax e.0 e.1 c.args.place c.args.place x = search rules in
    let free = iff_false c.needs_freeze.ensures c.if-needs_freeze.false in
    let takes = takes-grown h.statuses c.reserve_ids.new.statuses c.take_ids-x.new.statuses own c.reserve_ids.new.own c.take_ids-x.new.own x reserved.ids reserved.own reserved.none c.take_ids-x.ensures.takes in
    let h' : HeapView = record { pages = c.write.new.self; statuses = c.take_ids-x.new.statuses; indexes = c.self.inside.indexes; max_pages = c.self.inside.max_pages } in
    subst (λ (v : HeapView). VersionIsThere v c.args.place → Deletes v h' own c.take_ids-x.new.own c.args.place x) c.self.view_is
    (λ there. deletes h h' own c.take_ids-x.new.own c.args.place x e.0 e.1 free takes there e.2 away (ap (λ (p : PagesView). p.pages) e.4) (ap (λ (p : PagesView). p.marks) e.4) (record { entries = λ n. refl; since = λ n. refl }) refl) c.requires.there

pub invariant_of-self : goal.invariant_of-self
invariant_of-self c = (
  c.self.invariant.0,
  hints-same_ids c.self.inside.statuses c.reserve_ids.new.statuses c.self.inside.pages.pages c.self.inside.hints.pages c.reserve_ids.ensures.ids c.self.invariant.1,
)

pub write-requires-clause-ready : goal.write-requires-clause-ready
write-requires-clause-ready c =
    let place = c.args.place in
    let there : VersionIsThere (the_view c.self.inside) place = subst (λ (h : HeapView). VersionIsThere h place) (sym c.self.view_is) c.requires.there in
    let version : (page : PageView) → slice_get c.self.inside.pages.pages place.page ≡ Some page → IsNormalAt page.slots place.slot = λ page at. there-at (the_view c.self.inside) place page there at in
    grind serving

pub invariant_of-self-2 : goal.invariant_of-self-2
invariant_of-self-2 c =
    let place = c.args.place in
    let taken = c.take_ids-x in
    let x = taken.result.0 in
    let reserved = c.reserve_ids in
    let e = c.write.ensures.writes in
    let pages = c.self.inside.pages.pages in
    let hints = c.self.inside.hints.pages in
    let away : WritesXmax e.0 e.1 place place x = search rules in
    let there : VersionIsThere (the_view c.self.inside) place = subst (λ (h : HeapView). VersionIsThere h place) (sym c.self.view_is) c.requires.there in
    let ready = hints-same_ids c.self.inside.statuses reserved.new.statuses pages hints reserved.ensures.ids c.self.invariant.1 in
    let given = hints-taken reserved.new.statuses taken.new.statuses reserved.new.own taken.new.own x pages hints taken.ensures.takes taken.ensures.window ready in (
      c.self.invariant.0,
      hints-taken_away taken.new.statuses x place place pages c.write.new.self.pages e.0 e.1 hints c.expect_write.new.hints.pages e.2 (ap (λ (p : PagesView). p.pages) e.4) away
          (there-at (the_view c.self.inside) place e.0 there e.2) c.expect_write.ensures given,
    )
