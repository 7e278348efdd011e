use Rattle.std.proofs.Common.{arith, ap}
use Rattle.entry_columns.specs.Columns.{ColumnsView}
use Rattle.entry_columns.proofs.ColumnLemmas.{counts}
use Rattle.entry_columns.proofs.columns.EntryColumns.len.Goals as goal

pub returns-clause-value : goal.returns-clause-value
returns-clause-value g c =
    let many = counts g.L.Label.value_of g.L.Label.key_of c.self.inside.labels.items c.self.inside.places.items c.args.self.now.entries c.self.invariant.alike (ap (λ (v : ColumnsView). v.entries) c.self.view_is) in
    omega (arith, many.1, c.len.ensures)
