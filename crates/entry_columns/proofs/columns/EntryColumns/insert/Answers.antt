use Rattle.std.proofs.Common.{◌∙◌, rules, arith, length, SFits, ap}
use Rattle.std.specs.Int.{w128}
use Rattle.std.proofs.lemmas.Int.{to_z-of_z}
use Rattle.entry_columns.specs.Columns.{ColumnsView}
use Rattle.entry_columns.proofs.ColumnLemmas.{counts, entry_put, still_columns, room_for}
use Rattle.entry_columns.proofs.columns.EntryColumns.insert.Goals as goal

pub put-requires-clause-in_range : goal.put-requires-clause-in_range
put-requires-clause-in_range g c =
    let many = counts g.L.Label.value_of g.L.Label.key_of c.self.inside.labels.items c.self.inside.places.items c.args.self.now.entries c.self.invariant.alike (ap (λ (v : ColumnsView). v.entries) c.self.view_is) in
    omega (arith, many.0, c.requires.in_range)

pub put-requires-clause-room : goal.put-requires-clause-room
put-requires-clause-room g c =
    let many = counts g.L.Label.value_of g.L.Label.key_of c.self.inside.labels.items c.self.inside.places.items c.args.self.now.entries c.self.invariant.alike (ap (λ (v : ColumnsView). v.entries) c.self.view_is) in
    let room = ap (λ (v : ColumnsView). v.room) c.self.view_is in
    let fits = room_for (length c.args.self.now.entries) _ _ c.requires.few c.self.invariant.labels_reserved c.self.invariant.places_reserved (λ half. omega (arith, room, c.requires.room half)) in
    omega (arith, many.0, fits.0)

pub put-requires-2-clause-in_range : goal.put-requires-2-clause-in_range
put-requires-2-clause-in_range g c =
    let many = counts g.L.Label.value_of g.L.Label.key_of c.self.inside.labels.items c.self.inside.places.items c.args.self.now.entries c.self.invariant.alike (ap (λ (v : ColumnsView). v.entries) c.self.view_is) in
    omega (arith, many.1, c.requires.in_range)

pub put-requires-2-clause-room : goal.put-requires-2-clause-room
put-requires-2-clause-room g c =
    let many = counts g.L.Label.value_of g.L.Label.key_of c.self.inside.labels.items c.self.inside.places.items c.args.self.now.entries c.self.invariant.alike (ap (λ (v : ColumnsView). v.entries) c.self.view_is) in
    let room = ap (λ (v : ColumnsView). v.room) c.self.view_is in
    let fits = room_for (length c.args.self.now.entries) _ _ c.requires.few c.self.invariant.labels_reserved c.self.invariant.places_reserved (λ half. omega (arith, room, c.requires.room half)) in
    omega (arith, many.1, fits.1)

pub invariant_of-self : goal.invariant_of-self
invariant_of-self g c =
    let many = counts g.L.Label.value_of g.L.Label.key_of c.self.inside.labels.items c.self.inside.places.items c.args.self.now.entries c.self.invariant.alike (ap (λ (v : ColumnsView). v.entries) c.self.view_is) in
    still_columns c.self.inside.labels.items c.put.new.items.items c.self.inside.places.items c.put-2.new.items.items c.args.place c.new.result c.new-2.result _ _ _ _ c.self.invariant
    (omega (arith, many.0, c.requires.in_range)) (omega (arith, many.0, c.requires.few))
    (λ half. omega (arith, ap (λ (v : ColumnsView). v.room) c.self.view_is, c.requires.room (omega (arith, many.0, half)))) c.put.ensures.items c.put-2.ensures.items c.put.ensures.capacity c.put-2.ensures.capacity

pub returns-clause-entries : goal.returns-clause-entries
returns-clause-entries g c =
    let fits : SFits w128 c.args.entry.value = search rules in
    entry_put g.L.Label.value_of g.L.Label.key_of c.self.inside.labels.items c.put.new.items.items c.self.inside.places.items c.put-2.new.items.items c.args.self.now.entries c.args.place c.new.result c.new-2.result
    c.args.entry c.self.invariant.alike (ap (λ (v : ColumnsView). v.entries) c.self.view_is) c.requires.in_range c.put.ensures.items c.put-2.ensures.items (c.new.ensures.value ∙ to_z-of_z w128 c.args.entry.value fits) c.new.ensures.key
    c.new-2.ensures

pub returns-clause-room : goal.returns-clause-room
returns-clause-room g c =
    let room = ap (λ (v : ColumnsView). v.room) c.self.view_is in
    omega (arith, room, c.put.ensures.capacity, c.put-2.ensures.capacity)
