use Rattle.std.proofs.Common.{rules, ◌≡◌, sym, ap, ◌∙◌, subst, set}
use Rattle.std.proofs.lemmas.List.{get_or-set_same}
use Rattle.std.proofs.lemmas.Option.{slice_get_within}
use Rattle.page_slots.specs.View.{PageView}
use Rattle.heap_pages.specs.View.{PagesView}
use Rattle.freeze.specs.Freezing.{FreezesPage}
use Rattle.freeze.specs.AllVisible.{IsPageMark}
use Rattle.freeze.specs.DeadSlots.{ListsDead}
use Rattle.heap_write.specs.Heap.{HeapView, unused_page}
use Rattle.heap_write.specs.Growth.{page_in}
use Rattle.heap_write.specs.Cleaning.{FreezesAndNotes}
use Rattle.heap_write.specs.contracts.heap.HeapState.{the_view}
use Rattle.heap_write.proofs.Dying.{dies-frozen}
use Rattle.heap_write.proofs.DoubtLemmas.{doubts-frozen}
use Rattle.heap_write.proofs.PageLemmas.{page-at}
use Rattle.heap_write.proofs.HintLemmas.{hints-kept}
use Rattle.heap_write.proofs.heap.HeapState.freeze_and_note.Goals as goal

pub invariant_of-self : goal.invariant_of-self
invariant_of-self c =
    let w = c.self.inside.statuses in
    let e = c.edit-found.ensures.edits in
    let m = c.note.ensures in
    let freezes : FreezesPage w c.args.cutoff.0 c.args.number e.0 e.1 = search rules in
    let frozen = hints-kept w c.self.inside.pages.pages c.edit-found.new.self.pages c.self.inside.hints.pages c.args.number e.0 e.1 e.2 (ap (λ (p : PagesView). p.pages) e.4)
    (λ turn. dies-frozen w c.args.cutoff.0 c.args.number turn e.0.slots e.1.slots freezes.slots)
    (λ doubts. doubts-frozen w c.args.cutoff.0 c.args.number e.0.slots e.1.slots doubts freezes.slots) c.self.invariant.1 in (
      c.self.invariant.0,
      hints-kept w c.edit-found.new.self.pages c.note.new.self.pages c.self.inside.hints.pages c.args.number m.0 _ m.1 (ap (λ (p : PagesView). p.pages) m.2) (λ turn dies. dies) (λ doubts true. true) frozen,
    )

pub returns : goal.returns
returns c =
    let n = c.args.number in
    let horizon = c.args.horizon.0 in
    let w = c.self.inside.statuses in
    let pages = c.self.inside.pages.pages in
    let found = c.edit-found.result in
    let e = c.edit-found.ensures.edits in
    let m = c.note.ensures in
    let h : HeapView = the_view c.self.inside in
    let frozen : HeapView = record h { pages = c.edit-found.new.self } in
    let after : HeapView = record h { pages = c.note.new.self } in
    let freezes : FreezesPage w c.args.cutoff.0 n e.0 e.1 = search rules in
    let exact : IsPageMark w horizon e.1.slots found.mark = search rules in
    let lists : ListsDead e.1.slots found.dead.items = search rules in
    let put : c.edit-found.new.self.pages ≡ set pages n e.1 = ap (λ (p : PagesView). p.pages) e.4 in
    let same : e.1 ≡ m.0 =
    sym (ap (λ ps. page_in ps n) put ∙ get_or-set_same pages n e.1 unused_page (slice_get_within pages n e.0 e.2)) ∙ page-at c.edit-found.new.self.pages n m.0 m.1 in
    subst (λ (v : HeapView). FreezesAndNotes v after n c.args.cutoff.0 horizon found.dead.items) c.self.view_is (record {
      frozen = frozen;
      freezes = record { before = e.0; after = e.1; at = e.2; is = ap (λ (p : PagesView). record h { pages = p }) e.4; does = freezes };
      notes = record {
        page = m.0;
        at = m.1;
        mark = found.mark;
        exact = subst (λ (p : PageView). IsPageMark w horizon p.slots found.mark) same exact;
        is = ap (λ (p : PagesView). record h { pages = p }) m.2;
      };
      lists = subst (λ (p : PageView). ListsDead p.slots found.dead.items) same lists;
    })
