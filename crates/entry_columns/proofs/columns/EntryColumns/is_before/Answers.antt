use Rattle.std.proofs.Common.{◌∙◌, ◌<ℤ◌, get_or, sym, subst, arith, ap}
use Rattle.std.proofs.lemmas.Int.{ints}
use Rattle.entry_columns.specs.Columns.{ColumnsView}
use Rattle.entry_columns.proofs.ColumnLemmas.{counts, value_at, lower_first, higher_last}
use Rattle.entry_columns.proofs.columns.EntryColumns.is_before.Goals as goal

pub index-requires : goal.index-requires
index-requires g c =
    let many = counts g.L.Label.value_of g.L.Label.key_of c.self.inside.labels.items c.self.inside.places.items c.args.self.now.entries c.self.invariant.alike (ap (λ (v : ColumnsView). v.entries) c.self.view_is) in
    omega (arith, many.0, c.requires)

pub returns-then-value-sought : goal.returns-then-value-sought
returns-then-value-sought g c = λ d.
    let value = value_at g.L.Label.value_of g.L.Label.key_of c.self.inside.labels.items c.self.inside.places.items c.args.self.now.entries c.args.place c.index.result.now d c.self.invariant.alike (ap (λ (v : ColumnsView). v.entries) c.self.view_is)
    c.requires c.index.ensures ∙ sym c.value-value.ensures in
    let low : c.value-value.result <ℤ c.args.sought.now.value = grind (arith, ints, c.if-value-sought.true) in
    lower_first (get_or c.args.self.now.entries c.args.place d) c.args.sought.now (subst (λ z. z <ℤ c.args.sought.now.value) (sym value) low)

pub returns-then-sought-value : goal.returns-then-sought-value
returns-then-sought-value g c = λ d.
    let value = value_at g.L.Label.value_of g.L.Label.key_of c.self.inside.labels.items c.self.inside.places.items c.args.self.now.entries c.args.place c.index.result.now d c.self.invariant.alike (ap (λ (v : ColumnsView). v.entries) c.self.view_is)
    c.requires c.index.ensures ∙ sym c.value-value.ensures in
    let high : c.args.sought.now.value <ℤ c.value-value.result = grind (arith, ints, c.if-sought-value.true) in
    higher_last (get_or c.args.self.now.entries c.args.place d) c.args.sought.now (subst (λ z. c.args.sought.now.value <ℤ z) (sym value) high)
