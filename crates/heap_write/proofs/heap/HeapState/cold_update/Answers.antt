use Rattle.std.proofs.Common.{rules, ◌≡◌, Some, ◌<◌, length, set, slice_get, ap, subst, sym, ◌∙◌}
use Rattle.std.proofs.iter.Serving.{serving}
use Rattle.page_slots.specs.View.{PageView}
use Rattle.page_sheet.specs.Slots.{IsNormalAt}
use Rattle.space_maps.specs.declared.mark.Mark.TheVariants.{Nothing}
use Rattle.heap_pages.specs.View.{PagesView}
use Rattle.heap_write.specs.Heap.{HeapView}
use Rattle.heap_write.proofs.PageLemmas.{there-within}
use Rattle.heap_write.proofs.Writing.{WritesXmax, moves, puts-within, stays-there}
use Rattle.heap_write.proofs.HintLemmas.{hints-taken, hints-taken_away}
use Rattle.heap_write.proofs.heap.HeapState.cold_update.Goals as goal

pub write-requires-clause-within : goal.write-requires-clause-within
write-requires-clause-within c =
    let n = c.args.place.page in
    let root = c.put_root-successor.ensures.root in
    let within = subst (λ (h : HeapView). n < length h.pages.pages) (sym c.self.view_is) (there-within c.args.self.now c.args.place c.requires.may.there) in
    subst (λ (h : HeapView). n < length h.pages.pages) (sym c.self-2.view_is)
    (puts-within c.self.inside.pages c.put_root-successor.new.self.pages c.put_root-successor.result.page n root.put.page within root.put.puts)

pub write-requires-clause-ready : goal.write-requires-clause-ready
write-requires-clause-ready c =
    let version : (page : PageView) → slice_get c.self-2.inside.pages.pages c.args.place.page ≡ Some page → IsNormalAt page.slots c.args.place.slot = λ page at.
    stays-there c.args.self.now (record { pages = c.self.inside.pages; statuses = c.take_ids-x.new.statuses; indexes = c.self.inside.indexes; max_pages = c.self.inside.max_pages }) c.put_root-successor.new.self
    c.args.place c.take_ids-x.result.0 c.args.row.now c.put_root-successor.result.page page
    (ap (λ (h : HeapView). h.pages) c.self.view_is) c.requires.may.there c.put_root-successor.ensures.root
    (sym (ap (λ (h : HeapView). slice_get h.pages.pages c.args.place.page) c.self-2.view_is) ∙ at) in
    grind serving

pub returns-clause-replaces : goal.returns-clause-replaces
returns-clause-replaces c =
    let place = c.args.place in
    let x = c.take_ids-x.result.0 in
    let successor = c.put_root-successor.result in
    let e = c.write.ensures.writes in
    let away : WritesXmax e.0 e.1 place successor x = search rules in
    moves c.args.self.now (record { pages = c.self.inside.pages; statuses = c.take_ids-x.new.statuses; indexes = c.self.inside.indexes; max_pages = c.self.inside.max_pages }) c.put_root-successor.new.self _
    place successor x c.args.row.now c.args.target e.0 e.1
    (ap (λ (h : HeapView). h.pages) c.self.view_is) (ap (λ (h : HeapView). h.indexes) c.self.view_is)
    c.put_root-successor.ensures.root c.put_root-successor.ensures.page c.put_root-successor.ensures.slot
    (sym (ap (λ (h : HeapView). slice_get h.pages.pages place.page) c.self-2.view_is) ∙ e.2) away
    (ap (λ (p : PagesView). p.pages) e.4 ∙ ap (λ (h : HeapView). set h.pages.pages place.page e.1) c.self-2.view_is)
    (ap (λ (p : PagesView). p.marks) e.4 ∙ ap (λ (h : HeapView). set h.pages.marks place.page Nothing) c.self-2.view_is) (ap (λ (h : HeapView). h.indexes) c.self-2.view_is)

pub invariant_of-self : goal.invariant_of-self
invariant_of-self c =
    let taken = c.take_ids-x in (
      c.self.invariant.0,
      hints-taken c.self.inside.statuses taken.new.statuses c.args.own.now taken.new.own taken.result.0 c.self.inside.pages.pages c.self.inside.hints.pages taken.ensures.takes taken.ensures.window
          c.self.invariant.1,
    )

pub invariant_of-self-2 : goal.invariant_of-self-2
invariant_of-self-2 c =
    let place = c.args.place in
    let x = c.take_ids-x.result.0 in
    let successor = c.put_root-successor.result in
    let e = c.write.ensures.writes in
    let away : WritesXmax e.0 e.1 place successor x = search rules in
    let at = sym (ap (λ (h : HeapView). slice_get h.pages.pages place.page) c.self-2.view_is) ∙ e.2 in
    let normal = stays-there c.args.self.now (record { pages = c.self.inside.pages; statuses = c.take_ids-x.new.statuses; indexes = c.self.inside.indexes; max_pages = c.self.inside.max_pages }) c.put_root-successor.new.self
    place x c.args.row.now successor.page e.0 (ap (λ (h : HeapView). h.pages) c.self.view_is) c.requires.may.there c.put_root-successor.ensures.root at in (
      c.self-2.invariant.0,
      hints-taken_away c.self-2.inside.statuses x place successor c.self-2.inside.pages.pages c.write.new.self.pages e.0 e.1 c.self-2.inside.hints.pages c.expect_write.new.hints.pages e.2
          (ap (λ (p : PagesView). p.pages) e.4) away normal c.expect_write.ensures c.self-2.invariant.1,
    )
