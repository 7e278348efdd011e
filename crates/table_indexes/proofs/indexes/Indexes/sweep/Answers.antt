use Rattle.std.proofs.Common.{◌-◌, ap, arith}
use Rattle.table_indexes.specs.Indexes.{IndexesView}
use Rattle.table_indexes.proofs.Columns.{few-in_use, swept-column, swept-in_use, key-changed, column-changed}
use Rattle.table_indexes.proofs.indexes.Indexes.sweep.Goals as goal

-- each stays of its kind

pub invariant_of-self : goal.invariant_of-self
invariant_of-self c = key-changed c.self.inside.by_key c.remove_where.new.self c.self.inside.by_column c.self.invariant c.remove_where.ensures.kind

pub invariant_of-self-else-number-eq0 : goal.invariant_of-self-else-number-eq0
invariant_of-self-else-number-eq0 c =
    let below = few-in_use c.args.self.now.indexes c.self.inside.by_column _ c.args.number (ap (λ (v : IndexesView). v.indexes) c.self.view_is) c.self.invariant.size c.requires in
    column-changed c.self.inside.by_key c.self.inside.by_column (c.args.number - 1) c.index-self-number.result c.sweep_column.new.index c.self.invariant
    (omega (arith, c.if-number-eq0.false, below)) c.sweep_column.ensures.kind

pub returns-else-number-eq0-clause-removes : goal.returns-else-number-eq0-clause-removes
returns-else-number-eq0-clause-removes c =
    let below = few-in_use c.args.self.now.indexes c.self.inside.by_column _ c.args.number (ap (λ (v : IndexesView). v.indexes) c.self.view_is) c.self.invariant.size c.requires in
    swept-column c.args.self.now.indexes c.self.inside.by_column _ c.index-self-number.result c.sweep_column.new.index c.args.dead.now c.args.from c.sweep_column.result.0 c.args.number (ap (λ (v : IndexesView). v.indexes) c.self.view_is)
    (omega (arith, c.if-number-eq0.false)) (omega (arith, c.self.invariant.size, below)) c.sweep_column.ensures.removes

pub returns-else-number-eq0-clause-in_use : goal.returns-else-number-eq0-clause-in_use
returns-else-number-eq0-clause-in_use c =
    let below = few-in_use c.args.self.now.indexes c.self.inside.by_column _ c.args.number (ap (λ (v : IndexesView). v.indexes) c.self.view_is) c.self.invariant.size c.requires in
    swept-in_use c.args.self.now.indexes c.self.inside.by_column _ c.sweep_column.new.index c.args.number (ap (λ (v : IndexesView). v.indexes) c.self.view_is) (omega (arith, c.if-number-eq0.false)) (omega (arith, c.self.invariant.size, below)) c.requires
    c.sweep_column.ensures.in_use
