use Rattle.std.proofs.Common.{◌+◌, ◌∷◌, ℤ, pos, to_z, of_z, arith, ap, Some, sym, refl, subst, true}
use Rattle.std.specs.Int.{w128}
use Rattle.std.proofs.lemmas.Int.{to_z-of_z}
use Rattle.entry_columns.specs.Fits.{Fits, FitsLabel}
use Rattle.table_indexes.specs.Indexes.{IndexesView, index_at, HasEntry, without_body}
use Rattle.table_indexes.proofs.Columns.{entered-key, entered-column, entered-room, entered-all, key-changed, column-changed}
use Rattle.table_indexes.proofs.IndexLemmas.{same-since}
use Rattle.table_indexes.proofs.indexes.Indexes.enter.Goals as goal

-- the index by key

pub add_entry-requires-clause-room : goal.add_entry-requires-clause-room
add_entry-requires-clause-room c = (subst (λ (v : IndexesView). HasEntry (index_at v 0) (pos c.args.key) c.args.key) (sym c.self.view_is) (c.requires.room 0)).0

pub add_entry-requires-clause-fits : goal.add_entry-requires-clause-fits
add_entry-requires-clause-fits c =
    let value = to_z w128 (of_z w128 c.value_in.result) in
    let narrow = c.self.inside.by_key.is_narrow in
    let label : FitsLabel true narrow value c.args.key = subst (λ (z : ℤ). FitsLabel true narrow z c.args.key) (sym (to_z-of_z w128 c.value_in.result c.value_in.ensures.fits)) (c.value_in.ensures.key refl) in
    subst (λ kind. Fits kind narrow (record { value = value; key = c.args.key; tid = c.args.place })) (sym c.self.invariant.key) (label, c.requires.page)

pub loop-c-init : goal.loop-c-init
loop-c-init c = record {
  entered = entered-key (without_body c.args.key c.args.cols.now) c.args.place c.args.self.now.indexes c.self.inside.by_column c.self.inside.by_key c.add_entry.new.index c.value_in.result _
      (ap (λ (v : IndexesView). v.indexes) c.self.view_is) c.self.invariant.size c.value_in.ensures.value (to_z-of_z w128 c.value_in.result c.value_in.ensures.fits) c.add_entry.ensures.adds;
  since = ap (λ (v : IndexesView). v.since) c.self.view_is;
  kinds = key-changed c.self.inside.by_key c.add_entry.new.index c.self.inside.by_column c.self.invariant c.add_entry.ensures.kind;
}

-- those by columns

pub enter_in-requires-clause-room : goal.enter_in-requires-clause-room
enter_in-requires-clause-room c =
    let value = c.value_in-value in
    entered-room (without_body c.args.key c.args.cols.now) c.args.place c.args.self.now.indexes c.loop-c.self-inside.by_column (Some c.loop-c.self-inside.by_key) c.index-self-c.result value.result _ c.loop-c.c
    c.loop-c-test.true c.requires.room c.loop-c.invariant.entered value.ensures.value (to_z-of_z w128 value.result value.ensures.fits)

pub loop-c-preserved : goal.loop-c-preserved
loop-c-preserved c = record {
  entered = entered-column (without_body c.args.key c.args.cols.now) c.args.place c.args.self.now.indexes c.loop-c.self-inside.by_column (Some c.loop-c.self-inside.by_key) c.index-self-c.result c.enter_in.new.index c.value_in-value.result _ c.loop-c.c
      c.loop-c-test.true c.loop-c.invariant.entered c.value_in-value.ensures.value (to_z-of_z w128 c.value_in-value.result c.value_in-value.ensures.fits) c.enter_in.ensures.adds;
  since = c.loop-c.invariant.since;
  kinds = column-changed c.loop-c.self-inside.by_key c.loop-c.self-inside.by_column c.loop-c.c _ c.enter_in.new.index c.loop-c.invariant.kinds c.loop-c-test.true c.enter_in.ensures.kind;
}

pub returns : goal.returns
returns c = record {
  adds = entered-all (without_body c.args.key c.args.cols.now) c.args.place c.args.self.now.indexes (Some c.loop-c.self-inside.by_key ∷ c.loop-c.self-inside.by_column) (c.loop-c.c + 1)
      (omega (arith, c.loop-c-test.false)) c.loop-c.invariant.entered;
  since = same-since c.args.self.now.since c.loop-c.self-inside.since c.loop-c.invariant.since;
}
