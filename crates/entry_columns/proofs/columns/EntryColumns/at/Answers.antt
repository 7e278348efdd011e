use Rattle.std.proofs.Common.{◌∙◌, rules, arith, SFits, ap}
use Rattle.std.specs.Int.{w128}
use Rattle.std.proofs.lemmas.Int.{to_z-of_z}
use Rattle.entry_columns.specs.Columns.{ColumnsView}
use Rattle.entry_columns.proofs.ColumnLemmas.{counts, read_at}
use Rattle.entry_columns.proofs.columns.EntryColumns.at.Goals as goal

pub index-requires : goal.index-requires
index-requires g c =
    let many = counts g.L.Label.value_of g.L.Label.key_of c.self.inside.labels.items c.self.inside.places.items c.args.self.now.entries c.self.invariant.alike (ap (λ (v : ColumnsView). v.entries) c.self.view_is) in
    omega (arith, many.0, c.requires)

pub index-requires-2 : goal.index-requires-2
index-requires-2 g c =
    let many = counts g.L.Label.value_of g.L.Label.key_of c.self.inside.labels.items c.self.inside.places.items c.args.self.now.entries c.self.invariant.alike (ap (λ (v : ColumnsView). v.entries) c.self.view_is) in
    omega (arith, many.1, c.requires)

pub returns : goal.returns
returns g c =
    let fits : SFits w128 c.value.result = search rules in
    read_at g.L.Label.value_of g.L.Label.key_of c.self.inside.labels.items c.self.inside.places.items c.args.self.now.entries c.args.place c.index.result.now c.index-2.result.now _ c.key.result c.long.result
    c.self.invariant.alike (ap (λ (v : ColumnsView). v.entries) c.self.view_is) c.requires c.index.ensures c.index-2.ensures (to_z-of_z w128 c.value.result fits ∙ c.value.ensures) c.key.ensures c.long.ensures
