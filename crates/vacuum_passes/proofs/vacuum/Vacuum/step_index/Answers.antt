use Rattle.std.proofs.Common.{◌∙◌, ap, sym, subst, Some}
use Rattle.calls.specs.declared.vacuum.Piece.TheVariants as piece
use Rattle.vacuum_passes.specs.View.{VacuumView}
use Rattle.vacuum_passes.specs.Steps.{Steps}
use Rattle.vacuum_passes.proofs.vacuum.Vacuum.step_index.Goals as goal

pub returns-clause-step : goal.returns-clause-step
returns-clause-step c = λ horizon.
    let is = ap (λ (v : VacuumView). v.phase) (sym c.self.view_is) ∙ c.in-Index.is in
    subst (λ (v : VacuumView). Steps c.args.heap.now c.sweep.new.heap c.args.self.now horizon (Some v) (Some (piece.Index c.in-Index.index))) (sym c.count.ensures)
    (Steps.sweeps c.in-Index.index c.in-Index.from c.sweep.new.self is c.sweep.ensures)
