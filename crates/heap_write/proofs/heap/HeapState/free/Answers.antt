use Rattle.std.proofs.Common.{rules, ap, map}
use Rattle.xid_circle.specs.declared.Tid.{Tid}
use Rattle.heap_pages.specs.View.{PagesView}
use Rattle.heap_write.specs.Cleaning.{FreesSlots}
use Rattle.heap_write.proofs.Dying.{dies-freed}
use Rattle.heap_write.proofs.DoubtLemmas.{doubts-freed}
use Rattle.heap_write.proofs.HintLemmas.{hints-kept}
use Rattle.heap_write.proofs.heap.HeapState.free.Goals as goal

pub invariant_of-self : goal.invariant_of-self
invariant_of-self c =
    let w = c.self.inside.statuses in
    let e = c.edit.ensures.edits in
    let numbers = map (λ (tid : Tid). tid.slot) c.args.places.now in
    let frees : FreesSlots e.0.slots e.1.slots numbers = search rules in (
      c.self.invariant.0,
      hints-kept w c.self.inside.pages.pages c.edit.new.self.pages c.self.inside.hints.pages c.args.number e.0 e.1 e.2 (ap (λ (p : PagesView). p.pages) e.4)
          (λ turn. dies-freed w turn e.0.slots e.1.slots numbers frees) (λ doubts. doubts-freed w e.0.slots e.1.slots numbers doubts frees) c.self.invariant.1,
    )
