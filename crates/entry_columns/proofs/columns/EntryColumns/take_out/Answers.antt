use Rattle.std.proofs.Common.{arith, ap}
use Rattle.entry_columns.specs.Columns.{ColumnsView}
use Rattle.entry_columns.proofs.ColumnLemmas.{counts, entry_out, fewer_columns}
use Rattle.entry_columns.proofs.columns.EntryColumns.take_out.Goals as goal

pub take_one-requires : goal.take_one-requires
take_one-requires g c =
    let many = counts g.L.Label.value_of g.L.Label.key_of c.self.inside.labels.items c.self.inside.places.items c.args.self.now.entries c.self.invariant.alike (ap (λ (v : ColumnsView). v.entries) c.self.view_is) in
    omega (arith, many.0, c.requires)

pub take_one-requires-2 : goal.take_one-requires-2
take_one-requires-2 g c =
    let many = counts g.L.Label.value_of g.L.Label.key_of c.self.inside.labels.items c.self.inside.places.items c.args.self.now.entries c.self.invariant.alike (ap (λ (v : ColumnsView). v.entries) c.self.view_is) in
    omega (arith, many.1, c.requires)

pub invariant_of-self : goal.invariant_of-self
invariant_of-self g c =
    let many = counts g.L.Label.value_of g.L.Label.key_of c.self.inside.labels.items c.self.inside.places.items c.args.self.now.entries c.self.invariant.alike (ap (λ (v : ColumnsView). v.entries) c.self.view_is) in
    fewer_columns c.self.inside.labels.items c.take_one.new.items.items c.self.inside.places.items c.take_one-2.new.items.items c.args.place _ _ _ _ c.self.invariant (omega (arith, many.0, c.requires))
    c.take_one.ensures.items c.take_one-2.ensures.items c.take_one.ensures.capacity c.take_one-2.ensures.capacity

pub returns-clause-entries : goal.returns-clause-entries
returns-clause-entries g c =
    entry_out g.L.Label.value_of g.L.Label.key_of c.self.inside.labels.items c.take_one.new.items.items c.self.inside.places.items c.take_one-2.new.items.items c.args.self.now.entries c.args.place c.self.invariant.alike
    (omega (arith, (counts g.L.Label.value_of g.L.Label.key_of c.self.inside.labels.items c.self.inside.places.items c.args.self.now.entries c.self.invariant.alike (ap (λ (v : ColumnsView). v.entries) c.self.view_is)).0, c.requires))
    (ap (λ (v : ColumnsView). v.entries) c.self.view_is) c.take_one.ensures.items c.take_one-2.ensures.items
