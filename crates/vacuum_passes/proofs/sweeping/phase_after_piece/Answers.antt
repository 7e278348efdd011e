use Rattle.std.proofs.Common.{sym, refl, subst}
use Rattle.root_index.specs.declared.progress.Progress.{Progress}
use Rattle.vacuum_passes.specs.Steps.{PhaseAfter}
use Rattle.vacuum_passes.proofs.sweeping.phase_after_piece.Goals as goal

pub returns-in-More : goal.returns-in-More
returns-in-More c = PhaseAfter.more c.in-More.last c.in-More.is refl

pub returns-in-Done : goal.returns-in-Done
returns-in-Done c = subst (λ (p : Progress). PhaseAfter c.args.heap.now.indexes c.args.index p c.phase_after.result) (sym c.in-Done.is) c.phase_after.ensures
