use Rattle.std.proofs.Common.{◌∙◌, Some, refl, sym, ap, subst}
use Rattle.calls.specs.declared.vacuum.Piece.TheVariants as piece
use Rattle.vacuum_passes.specs.View.{VacuumView}
use Rattle.vacuum_passes.specs.Steps.{Steps}
use Rattle.vacuum_passes.proofs.Stepping.{none-freed, shown-none, shown-some}
use Rattle.vacuum_passes.proofs.vacuum.Vacuum.leave_heap.Goals as goal

pub returns-then-is_empty : goal.returns-then-is_empty
returns-then-is_empty c = λ horizon.
    Steps.ends c.requires.phase c.requires.none_left
    (shown-none c.self.inside.freed c.self.inside.store c.args.self.now.store
    (none-freed c.self.inside.phase c.self.inside.freed (ap (λ (v : VacuumView). v.phase) c.self.view_is ∙ c.requires.phase) c.self.invariant.3)
    (ap (λ (v : VacuumView). v.store) (sym c.self.view_is)) (sym c.is_empty.ensures ∙ c.if-is_empty.true)) refl

pub begin_indexes-requires-clause-some : goal.begin_indexes-requires-clause-some
begin_indexes-requires-clause-some c =
    shown-some c.self.inside.freed c.self.inside.store c.args.self.now.store
    (none-freed c.self.inside.phase c.self.inside.freed (ap (λ (v : VacuumView). v.phase) c.self.view_is ∙ c.requires.phase) c.self.invariant.3)
    (ap (λ (v : VacuumView). v.store) (sym c.self.view_is)) (sym c.is_empty.ensures ∙ c.if-is_empty.false)

pub returns : goal.returns
returns c = λ horizon.
    subst (λ (v : VacuumView). Steps c.args.heap.now c.begin_indexes.new.heap c.args.self.now horizon (Some v) (Some (piece.Index 0))) (sym c.count.ensures)
    (Steps.begins_index c.begin_indexes.new.self c.requires.phase c.requires.none_left
    (shown-some c.self.inside.freed c.self.inside.store c.args.self.now.store
    (none-freed c.self.inside.phase c.self.inside.freed (ap (λ (v : VacuumView). v.phase) c.self.view_is ∙ c.requires.phase) c.self.invariant.3)
    (ap (λ (v : VacuumView). v.store) (sym c.self.view_is)) (sym c.is_empty.ensures ∙ c.if-is_empty.false)) c.begin_indexes.ensures)
