use Rattle.std.proofs.Common.{◌≡◌, ◌<◌, ◌≤◌, ℕ, min, inl, inr, arith, ap}
use Rattle.std.proofs.lemmas.Bool.{cases_lt}
use Rattle.entry_columns.specs.Columns.{ColumnsView}
use Rattle.entry_columns.proofs.ColumnLemmas.{counts, entries_with-front, entries_with-back}
use Rattle.entry_columns.proofs.columns.EntryColumns.move_before.Goals as goal

pub move_part-requires-clause-in_range : goal.move_part-requires-clause-in_range
move_part-requires-clause-in_range g c =
    let many = counts g.L.Label.value_of g.L.Label.key_of c.self.inside.labels.items c.self.inside.places.items c.args.self.now.entries c.self.invariant.alike (ap (λ (v : ColumnsView). v.entries) c.self.view_is) in
    omega (arith, many.0, c.requires.in_range)

pub move_part-requires-2-clause-in_range : goal.move_part-requires-2-clause-in_range
move_part-requires-2-clause-in_range g c =
    let many = counts g.L.Label.value_of g.L.Label.key_of c.self.inside.labels.items c.self.inside.places.items c.args.self.now.entries c.self.invariant.alike (ap (λ (v : ColumnsView). v.entries) c.self.view_is) in
    omega (arith, many.1, c.requires.in_range)

room_before : (place label_room place_room room : ℕ) → min label_room place_room ≡ room → 64 ≤ label_room → 64 ≤ place_room → (64 < place → 128 ≤ room) → place ≤ 128
    → (place ≤ label_room) × (place ≤ place_room)
room_before place label_room place_room room is labels places large few = elim (cases_lt 64 place) [
  | inl more ↦ let both = large more in (omega (arith, is, few, both), omega (arith, is, few, both))
  | inr less ↦ (omega (arith, less, labels), omega (arith, less, places))
]

pub move_part-requires-clause-room : goal.move_part-requires-clause-room
move_part-requires-clause-room g c =
    let many = counts g.L.Label.value_of g.L.Label.key_of c.self.inside.labels.items c.self.inside.places.items c.args.self.now.entries c.self.invariant.alike (ap (λ (v : ColumnsView). v.entries) c.self.view_is) in
    (room_before c.args.place _ _ _ (ap (λ (v : ColumnsView). v.room) c.lower.view_is) c.lower.invariant.labels_reserved c.lower.invariant.places_reserved c.requires.room
    (omega (arith, many.0, c.requires.in_range, c.self.invariant.few))).0

pub move_part-requires-2-clause-room : goal.move_part-requires-2-clause-room
move_part-requires-2-clause-room g c =
    let many = counts g.L.Label.value_of g.L.Label.key_of c.self.inside.labels.items c.self.inside.places.items c.args.self.now.entries c.self.invariant.alike (ap (λ (v : ColumnsView). v.entries) c.self.view_is) in
    (room_before c.args.place _ _ _ (ap (λ (v : ColumnsView). v.room) c.lower.view_is) c.lower.invariant.labels_reserved c.lower.invariant.places_reserved c.requires.room
    (omega (arith, many.0, c.requires.in_range, c.self.invariant.few))).1

pub returns-clause-moved : goal.returns-clause-moved
returns-clause-moved g c =
    entries_with-front g.L.Label.value_of g.L.Label.key_of c.self.inside.labels.items c.move_part.new.lower.items c.self.inside.places.items c.move_part-2.new.lower.items c.args.self.now.entries c.args.place
    (ap (λ (v : ColumnsView). v.entries) c.self.view_is) c.move_part.ensures.moved c.move_part-2.ensures.moved

pub returns-clause-stay : goal.returns-clause-stay
returns-clause-stay g c =
    entries_with-back g.L.Label.value_of g.L.Label.key_of c.self.inside.labels.items c.move_part.new.items.items c.self.inside.places.items c.move_part-2.new.items.items c.args.self.now.entries c.args.place
    (ap (λ (v : ColumnsView). v.entries) c.self.view_is) c.move_part.ensures.stay c.move_part-2.ensures.stay
