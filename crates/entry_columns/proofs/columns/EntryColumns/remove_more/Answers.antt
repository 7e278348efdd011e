use Rattle.std.proofs.Common.{◌∙◌, ◌++◌, ◌+◌, ◌<◌, ℕ, length, vec_capacity, take, drop, ap, sym, subst, refl, pos, arith, List}
use Rattle.std.proofs.lemmas.List.{length-take}
use Rattle.entry_columns.specs.Columns.{ColumnsView, entries_with}
use Rattle.entry_columns.specs.declared.columns.EntryColumns.TheInside.{Inside}
use Rattle.std.specs.List.{filter}
use Rattle.index_entries.specs.declared.entry.Entry.{Entry}
use Rattle.index_entries.specs.Lists.{stays}
use Rattle.entry_columns.proofs.ColumnLemmas.{counts, entries_with-front}
use Rattle.entry_columns.proofs.RemovalLemmas.{IsRemoving, removing_one, keeping_one, at_end}
use Rattle.entry_columns.proofs.columns.EntryColumns.remove_more.Goals as goal
use Rattle.entry_columns.proofs.columns.EntryColumns.remove_more.Goals.{then-not-is_dead, else-not-is_dead}

pub loop-place-init : goal.loop-place-init
loop-place-init g c =
    let room = ap (λ (v : ColumnsView). v.room) c.self.view_is in
    let many = counts g.L.Label.value_of g.L.Label.key_of c.self.inside.labels.items c.self.inside.places.items c.args.self.now.entries c.self.invariant.alike (ap (λ (v : ColumnsView). v.entries) c.self.view_is) in
    record {
      entries = ap (λ (xs : List Entry). take c.args.from xs ++ filter (stays c.args.dead.now) (drop c.args.from xs)) (ap (λ (v : ColumnsView). v.entries) c.self.view_is);
      order = omega arith;
      labels = many.0;
      places = many.1;
      few = omega (arith, many.0, c.self.invariant.few);
      half = omega (arith, room, c.self.invariant.labels_reserved, c.self.invariant.places_reserved);
      large = λ more. let both = c.self.invariant.large (omega (arith, more, many.0)) in omega (arith, room, both);
      labels_reserved = omega (arith, room);
      places_reserved = omega (arith, room);
    }

pub index_mut-requires : goal.index_mut-requires
index_mut-requires g c =
    let so_far = c.loop-place.invariant in
    let many = counts g.L.Label.value_of g.L.Label.key_of c.self.inside.labels.items c.self.inside.places.items c.args.self.now.entries c.self.invariant.alike (ap (λ (v : ColumnsView). v.entries) c.self.view_is) in
    omega (arith, so_far.order, so_far.labels, many.1, c.loop-place-test.true, c.len-place-end.ensures)

pub index_mut-requires-then-not-is_dead : goal.index_mut-requires-then-not-is_dead
index_mut-requires-then-not-is_dead g c =
    let so_far = c.loop-place.invariant in
    let many = counts g.L.Label.value_of g.L.Label.key_of c.self.inside.labels.items c.self.inside.places.items c.args.self.now.entries c.self.invariant.alike (ap (λ (v : ColumnsView). v.entries) c.self.view_is) in
    omega (arith, so_far.order, so_far.places, many.1, c.loop-place-test.true, c.len-place-end.ensures)

pub loop-place-preserved : goal.loop-place-preserved
loop-place-preserved g c =
    let many = counts g.L.Label.value_of g.L.Label.key_of c.self.inside.labels.items c.self.inside.places.items c.args.self.now.entries c.self.invariant.alike (ap (λ (v : ColumnsView). v.entries) c.self.view_is) in
    let within : c.loop-place.place < length c.args.self.now.entries = omega (arith, many.1, c.loop-place-test.true, c.len-place-end.ensures) in
    let none : Entry = record { value = pos 0; key = 0; tid = record { page = 0; slot = 0 } } in
    let Removing : ℕ → Inside g.row.L.Denot → Type 0 = λ kept inside.
    IsRemoving g.L.Label.value_of g.L.Label.key_of c.args.dead.now c.args.self.now.entries c.args.self.now.room c.args.from kept (c.loop-place.place + 1) inside.labels.items inside.places.items (vec_capacity inside.labels)
    (vec_capacity inside.places) in
    elim c.if-not-is_dead.branch [
      | then-not-is_dead w ↦ subst (λ kept. Removing kept c.if-not-is_dead.self-inside) (sym w.kept-is) (subst (λ inside. Removing (c.loop-place.kept + 1) inside) (sym w.self-inside-is)
          (keeping_one g.L.Label.value_of g.L.Label.key_of c.args.dead.now c.args.self.now.entries c.args.self.now.room c.args.from c.loop-place.kept c.loop-place.place c.loop-place.self-inside.labels.items
          c.loop-place.self-inside.places.items _ _ c.loop-place.invariant c.index-tid.result.now c.is_dead.result none within c.index-tid.ensures c.is_dead.ensures
          w.index.result.now _ _ _ _ w.if-not-is_dead.true w.index.ensures refl refl (omega arith) (omega arith)))
      | else-not-is_dead w ↦ subst (λ kept. Removing kept c.if-not-is_dead.self-inside) (sym w.kept-is) (subst (λ inside. Removing c.loop-place.kept inside) (sym w.self-inside-is)
          (removing_one g.L.Label.value_of g.L.Label.key_of c.args.dead.now c.args.self.now.entries c.args.self.now.room c.args.from c.loop-place.kept c.loop-place.place c.loop-place.self-inside.labels.items
          c.loop-place.self-inside.places.items _ _ c.loop-place.invariant c.index-tid.result.now c.is_dead.result none within c.index-tid.ensures c.is_dead.ensures w.if-not-is_dead.false))
    ]

pub returns-clause-entries : goal.returns-clause-entries
returns-clause-entries g c =
    let xs = entries_with g.L.Label.value_of g.L.Label.key_of c.loop-place.self-inside.labels.items c.loop-place.self-inside.places.items in
    let so_far = c.loop-place.invariant in
    let many = counts g.L.Label.value_of g.L.Label.key_of c.self.inside.labels.items c.self.inside.places.items c.args.self.now.entries c.self.invariant.alike (ap (λ (v : ColumnsView). v.entries) c.self.view_is) in
    let long = counts g.L.Label.value_of g.L.Label.key_of c.loop-place.self-inside.labels.items c.loop-place.self-inside.places.items xs (so_far.labels ∙ sym so_far.places) refl in
    entries_with-front g.L.Label.value_of g.L.Label.key_of c.loop-place.self-inside.labels.items c.truncate.new.self.items c.loop-place.self-inside.places.items c.truncate-2.new.self.items xs c.loop-place.kept
    refl c.truncate.ensures.items c.truncate-2.ensures.items
    ∙ sym (at_end (stays c.args.dead.now) xs c.loop-place.kept c.loop-place.place (omega (arith, many.1, long.1, so_far.places, c.loop-place-test.false, c.len-place-end.ensures)))
    ∙ so_far.entries

pub returns-clause-shorter : goal.returns-clause-shorter
returns-clause-shorter g c =
    let xs = entries_with g.L.Label.value_of g.L.Label.key_of c.loop-place.self-inside.labels.items c.loop-place.self-inside.places.items in
    let so_far = c.loop-place.invariant in
    let long = counts g.L.Label.value_of g.L.Label.key_of c.loop-place.self-inside.labels.items c.loop-place.self-inside.places.items xs (so_far.labels ∙ sym so_far.places) refl in
    let front = ap length (entries_with-front g.L.Label.value_of g.L.Label.key_of c.loop-place.self-inside.labels.items c.truncate.new.self.items c.loop-place.self-inside.places.items
    c.truncate-2.new.self.items xs c.loop-place.kept refl c.truncate.ensures.items c.truncate-2.ensures.items) in
    omega (arith, front, length-take c.loop-place.kept xs, long.1, so_far.places)

pub returns-clause-room : goal.returns-clause-room
returns-clause-room g c = omega (arith, c.loop-place.invariant.labels_reserved, c.loop-place.invariant.places_reserved, c.truncate.ensures.capacity, c.truncate-2.ensures.capacity)

pub invariant_of-self : goal.invariant_of-self
invariant_of-self g c =
    let so_far = c.loop-place.invariant in
    let short = length-take c.loop-place.kept c.loop-place.self-inside.labels.items in
    let short_too = length-take c.loop-place.kept c.loop-place.self-inside.places.items in
    let labels = ap length c.truncate.ensures.items in
    let places = ap length c.truncate-2.ensures.items in
    record {
      alike = omega (arith, short, short_too, labels, places, so_far.labels, so_far.places);
      few = omega (arith, short, labels, so_far.labels, so_far.few);
      labels_reserved = omega (arith, so_far.half, so_far.labels_reserved, c.truncate.ensures.capacity);
      places_reserved = omega (arith, so_far.half, so_far.places_reserved, c.truncate-2.ensures.capacity);
      large = λ more. let whole = so_far.large (omega (arith, more, short, labels, so_far.labels)) in
          (omega (arith, whole, so_far.labels_reserved, c.truncate.ensures.capacity), omega (arith, whole, so_far.places_reserved, c.truncate-2.ensures.capacity));
    }
