use Rattle.std.proofs.Common.{◌∙◌, ◌↔◌, ◌≤◌, ◌+◌, IsTrue, List, Option, IfSome, Contains, length, sym, ap, subst, pos, arith}
use Rattle.std.proofs.lemmas.Option.{slice_get_past}
use Rattle.xid_circle.specs.declared.Tid.{Tid}
use Rattle.index_entries.specs.declared.entry.Entry.{Entry}
use Rattle.entry_columns.specs.declared.short_tid.ShortTid.{ShortTid}
use Rattle.entry_columns.specs.Columns.{ColumnsView}
use Rattle.entry_columns.specs.Gaps.{AreOutsideFrom}
use Rattle.entry_columns.proofs.ColumnLemmas.{counts}
use Rattle.entry_columns.proofs.RemovalLemmas.{none_yet, none_between, dead_there}
use Rattle.entry_columns.proofs.columns.EntryColumns.next_dead.Goals as goal

pub next_within-place-requires : goal.next_within-place-requires
next_within-place-requires g c =
    let many = counts g.L.Label.value_of g.L.Label.key_of c.self.inside.labels.items c.self.inside.places.items c.args.self.now.entries c.self.invariant.alike (ap (λ (v : ColumnsView). v.entries) c.self.view_is) in
    let whole = ap length c.deref.ensures.value in
    omega (arith, many.1, whole, c.requires)

pub loop-place-init : goal.loop-place-init
loop-place-init g c =
    let is = ap (λ (v : ColumnsView). v.entries) c.self.view_is in
    let whole = ap length c.deref.ensures.value in
    let end : c.next_within-place.result ≤ length c.self.inside.places.items = omega (arith, whole, c.next_within-place.ensures.end) in
    record {
      from = c.next_within-place.ensures.from;
      end = end;
      kept = none_between g.L.Label.value_of g.L.Label.key_of c.self.inside.labels.items c.self.inside.places.items c.args.self.now.entries c.args.from c.next_within-place.result c.span_of-span.result.least c.span_of-span.result.more
          c.args.dead.now c.self.invariant.alike is c.next_within-place.ensures.from end c.span_of-span.ensures
          (subst (λ (ps : List ShortTid). AreOutsideFrom ps c.args.from c.next_within-place.result c.span_of-span.result.least c.span_of-span.result.more) c.deref.ensures.value c.next_within-place.ensures.outside);
    }

pub returns-then-contains-clause-in_range : goal.returns-then-contains-clause-in_range
returns-then-contains-clause-in_range g c =
    let many = counts g.L.Label.value_of g.L.Label.key_of c.self.inside.labels.items c.self.inside.places.items c.args.self.now.entries c.self.invariant.alike (ap (λ (v : ColumnsView). v.entries) c.self.view_is) in
    omega (arith, many.1, c.loop-place.invariant.end)

pub returns-clause-in_range : goal.returns-clause-in_range
returns-clause-in_range g c =
    let many = counts g.L.Label.value_of g.L.Label.key_of c.self.inside.labels.items c.self.inside.places.items c.args.self.now.entries c.self.invariant.alike (ap (λ (v : ColumnsView). v.entries) c.self.view_is) in
    omega (arith, many.1, c.loop-place.invariant.end)

pub returns-then-contains-clause-dead : goal.returns-then-contains-clause-dead
returns-then-contains-clause-dead g c =
    let many = counts g.L.Label.value_of g.L.Label.key_of c.self.inside.labels.items c.self.inside.places.items c.args.self.now.entries c.self.invariant.alike (ap (λ (v : ColumnsView). v.entries) c.self.view_is) in
    let none : Entry = record { value = pos 0; key = 0; tid = record { page = 0; slot = 0 } } in
    dead_there g.L.Label.value_of g.L.Label.key_of c.self.inside.labels.items c.self.inside.places.items c.args.self.now.entries c.loop-place.place c.index.result.now c.args.dead.now none c.self.invariant.alike
    (ap (λ (v : ColumnsView). v.entries) c.self.view_is) (omega (arith, many.1, c.loop-place-test.true, c.len.ensures)) c.index.ensures
    (subst (Contains c.args.dead.now) c.long.ensures (c.contains.ensures.0 c.if-contains.true))

pub loop-place-preserved : goal.loop-place-preserved
loop-place-preserved g c =
    let is = ap (λ (v : ColumnsView). v.entries) c.self.view_is in
    let many = counts g.L.Label.value_of g.L.Label.key_of c.self.inside.labels.items c.self.inside.places.items c.args.self.now.entries c.self.invariant.alike is in
    let none : Entry = record { value = pos 0; key = 0; tid = record { page = 0; slot = 0 } } in
    let whole = ap length c.deref-in-loop-place.ensures.value in
    let next = c.next_within-place-in-loop-place in
    let end : next.result ≤ length c.self.inside.places.items = omega (arith, whole, next.ensures.end) in
    record {
      from = omega (arith, c.loop-place.invariant.from, next.ensures.from);
      end = end;
      kept = none_between g.L.Label.value_of g.L.Label.key_of c.self.inside.labels.items c.self.inside.places.items c.args.self.now.entries (c.loop-place.place + 1) next.result c.span_of-span.result.least
          c.span_of-span.result.more c.args.dead.now c.self.invariant.alike is next.ensures.from end c.span_of-span.ensures
          (subst (λ (ps : List ShortTid). AreOutsideFrom ps (c.loop-place.place + 1) next.result c.span_of-span.result.least c.span_of-span.result.more) c.deref-in-loop-place.ensures.value next.ensures.outside)
          ∙ none_yet g.L.Label.value_of g.L.Label.key_of c.self.inside.labels.items c.self.inside.places.items c.args.self.now.entries c.loop-place.place c.args.from c.index.result.now c.args.dead.now c.contains.result none
          c.self.invariant.alike is (omega (arith, many.1, c.loop-place-test.true, c.len.ensures)) c.index.ensures
          (subst (λ (t : Tid). IsTrue c.contains.result ↔ Contains c.args.dead.now t) c.long.ensures c.contains.ensures) c.if-contains.false c.loop-place.invariant.kept;
    }

pub returns-clause-dead : goal.returns-clause-dead
returns-clause-dead g c =
    let many = counts g.L.Label.value_of g.L.Label.key_of c.self.inside.labels.items c.self.inside.places.items c.args.self.now.entries c.self.invariant.alike (ap (λ (v : ColumnsView). v.entries) c.self.view_is) in
    subst (λ (o : Option Entry). IfSome o (λ e. Contains c.args.dead.now e.tid)) (sym (slice_get_past c.args.self.now.entries c.loop-place.place (omega (arith, many.1, c.loop-place-test.false, c.len.ensures)))) tt
