use Rattle.std.proofs.Common.{ap, rules, ◌∙◌, ◌∷◌, Some}
use Rattle.std.specs.Int.{w64}
use Rattle.std.proofs.lemmas.Int.{to_z-of_z}
use Rattle.index_entries.proofs.SetLemmas.{on_err}
use Rattle.table_indexes.specs.Indexes.{IndexesView, NeedsEntry}
use Rattle.table_indexes.proofs.Columns.{reserved-key, reserved-column, reserved-all, reserved-column-all, reserved-lacks, key-changed, column-kind, column-put}
use Rattle.table_indexes.proofs.IndexLemmas.{same-since}
use Rattle.table_indexes.proofs.indexes.Indexes.make_room.Goals as goal

pub loop-c-init : goal.loop-c-init
loop-c-init c =
    let made = c.in_ok-make_room.ensures in
    record {
      reserved = reserved-key c.args.row.now c.args.self.now.indexes c.self.inside.by_column c.self.inside.by_key c.make_room.new.self (ap (λ (v : IndexesView). v.indexes) c.self.view_is) c.self.invariant.size
          (made.kind ∙ c.self.invariant.key) made.room made.entries;
      since = ap (λ (v : IndexesView). v.since) c.self.view_is;
      kinds = key-changed c.self.inside.by_key c.make_room.new.self c.self.inside.by_column c.self.invariant made.kind;
    }

pub reserve_entry-requires : goal.reserve_entry-requires
reserve_entry-requires c = column-kind c.loop-c.self-inside.by_key c.loop-c.self-inside.by_column c.loop-c.c _ c.loop-c.invariant.kinds c.loop-c-test.true

pub loop-c-preserved : goal.loop-c-preserved
loop-c-preserved c =
    let made = c.in_ok-reserve_entry.ensures in
    record {
      reserved = reserved-column c.args.row.now c.args.self.now.indexes c.loop-c.self-inside.by_column (Some c.loop-c.self-inside.by_key) c.index-self-c.result c.reserve_entry.new.index _ c.loop-c.c
          c.loop-c-test.true c.loop-c.invariant.reserved (to_z-of_z w64 _ (search rules)) made.room made.same;
      since = c.loop-c.invariant.since;
      kinds = column-put c.loop-c.self-inside.by_key c.loop-c.self-inside.by_column c.loop-c.c c.reserve_entry.new.index c.loop-c.invariant.kinds made.kind;
    }

pub returns-in_err-reserve_entry-clause-refused : goal.returns-in_err-reserve_entry-clause-refused
returns-in_err-reserve_entry-clause-refused c =
    on_err c.from_residual-in_err-reserve_entry.result (NeedsEntry c.args.self.now c.args.row.now)
    (reserved-lacks c.args.row.now c.args.self.now.indexes c.loop-c.self-inside.by_column (Some c.loop-c.self-inside.by_key) c.index-self-c.result _ c.loop-c.c c.loop-c-test.true
    c.loop-c.invariant.reserved (to_z-of_z w64 _ (search rules)) c.in_err-reserve_entry.ensures.refused)

pub returns-in_err-reserve_entry-clause-same : goal.returns-in_err-reserve_entry-clause-same
returns-in_err-reserve_entry-clause-same c = record {
  entries = reserved-column-all c.args.row.now c.args.self.now.indexes c.loop-c.self-inside.by_column (Some c.loop-c.self-inside.by_key) c.index-self-c.result c.reserve_entry.new.index c.loop-c.c c.loop-c-test.true
      c.loop-c.invariant.reserved c.in_err-reserve_entry.ensures.same;
  since = same-since c.args.self.now.since c.loop-c.self-inside.since c.loop-c.invariant.since;
}

pub returns-clause-same : goal.returns-clause-same
returns-clause-same c = record {
  entries = reserved-all c.args.row.now c.args.self.now.indexes (Some c.loop-c.self-inside.by_key ∷ c.loop-c.self-inside.by_column) _ c.loop-c.invariant.reserved;
  since = same-since c.args.self.now.since c.loop-c.self-inside.since c.loop-c.invariant.since;
}
