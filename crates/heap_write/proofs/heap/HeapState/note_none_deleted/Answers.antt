use Rattle.std.proofs.Common.{◌<◌, length, sym, subst}
use Rattle.std.proofs.lemmas.Option.{slice_get-get_or}
use Rattle.prune.proofs.Cuts.{next-turn}
use Rattle.freeze.specs.AllVisible.{IsAllVisible}
use Rattle.heap_write.specs.Heap.{HeapView, unused_page, page_on}
use Rattle.heap_write.proofs.HintLemmas.{hints-noted}
use Rattle.heap_write.proofs.Visited.{dies-visible}
use Rattle.heap_write.specs.contracts.heap.HeapState.{the_view}
use Rattle.heap_write.proofs.heap.HeapState.note_none_deleted.Goals as goal

pub invariant_of-self : goal.invariant_of-self
invariant_of-self c =
    let w = c.self.inside.statuses in
    let pages = c.self.inside.pages.pages in
    let n = c.args.number in
    let within : n < length pages = subst (λ (h : HeapView). n < length h.pages.pages) (sym c.self.view_is) c.requires.within in
    let visible = subst (λ (h : HeapView). IsAllVisible h.statuses c.args.horizon.0 (page_on h n).slots) (sym c.self.view_is) c.requires.visible in
    let turn = next-turn w c.next-next.result.0 c.turn_of.result c.unwrap_or-turn.result c.fact_window.ensures c.next-next.ensures.value c.turn_of.ensures c.unwrap_or-turn.ensures in (
      c.self.invariant.0,
      hints-noted w pages c.self.inside.hints.pages c.note.new.self.pages n c.unwrap_or-turn.result (page_on (the_view c.self.inside) n) (slice_get-get_or pages n unused_page within)
          (dies-visible w c.args.horizon.0 c.unwrap_or-turn.result _ turn visible) c.note.ensures.pages c.self.invariant.1,
    )
