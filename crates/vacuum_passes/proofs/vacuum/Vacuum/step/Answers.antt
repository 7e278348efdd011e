use Rattle.std.proofs.Common.{◌∙◌, ap, sym, subst, ⊎_elim, Some}
use Rattle.calls.specs.declared.vacuum.Piece.TheVariants as piece
use Rattle.vacuum_passes.specs.View.{VacuumView}
use Rattle.vacuum_passes.specs.Steps.{Steps}
use Rattle.vacuum_passes.proofs.vacuum.Vacuum.step.Goals as goal

pub returns-in-Heap : goal.returns-in-Heap
returns-in-Heap c = c.step_heap.ensures

pub returns-in-Free : goal.returns-in-Free
returns-in-Free c =
    let is = ap (λ (v : VacuumView). v.phase) (sym c.self.view_is) ∙ c.in-Free.is in
    subst (λ (v : VacuumView). Steps c.args.heap.now c.free-page.new.heap c.args.self.now c.args.horizon.0 (Some v) (Some (piece.Free c.free-page.result))) (sym c.count.ensures)
    (⊎_elim (λ frees. Steps.frees c.free-page.result c.free-page.new.self is frees) (λ drops. Steps.drops c.free-page.result c.free-page.new.self is drops) c.free-page.ensures)
