use Rattle.std.proofs.Common.{sym, subst, Some}
use Rattle.calls.specs.declared.vacuum.Piece.TheVariants as piece
use Rattle.vacuum_passes.specs.View.{VacuumView}
use Rattle.vacuum_passes.specs.Steps.{Steps}
use Rattle.vacuum_passes.proofs.vacuum.Vacuum.step_heap.Goals as goal

pub returns-in-Some : goal.returns-in-Some
returns-in-Some c =
    subst (λ (v : VacuumView). Steps c.args.heap.now c.visit.new.heap c.args.self.now c.args.horizon.0 (Some v) (Some (piece.Heap c.in-Some.number))) (sym c.count.ensures)
    (Steps.visits c.in-Some.number c.visit.new.self c.requires.phase c.in-Some.ensures c.visit.ensures)

pub returns-in-None : goal.returns-in-None
returns-in-None c = c.leave_heap.ensures c.args.horizon.0
