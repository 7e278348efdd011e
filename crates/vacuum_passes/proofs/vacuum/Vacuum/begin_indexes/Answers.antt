use Rattle.std.proofs.Common.{◌∙◌, sym, ap}
use Rattle.vacuum_passes.specs.View.{VacuumView}
use Rattle.vacuum_passes.proofs.Stepping.{none-freed, frees-none, begun-index-kept}
use Rattle.vacuum_passes.proofs.vacuum.Vacuum.begin_indexes.Goals as goal

pub invariant_of-self : goal.invariant_of-self
invariant_of-self c = (
  begun-index-kept _ c.args.heap.now.indexes 0 c.sweep_piece-phase.ensures.progress c.sweep_piece-phase.result.0 c.self.invariant.0
      (λ e. c.requires.some (ap (λ (v : VacuumView). v.store) (sym c.self.view_is) ∙ e)) c.sweep_piece-phase.ensures.next,
  c.self.invariant.1,
  c.self.invariant.2,
  frees-none c.sweep_piece-phase.result.0 c.self.inside.freed
      (none-freed c.self.inside.phase c.self.inside.freed (ap (λ (v : VacuumView). v.phase) c.self.view_is ∙ c.requires.phase) c.self.invariant.3),
)
