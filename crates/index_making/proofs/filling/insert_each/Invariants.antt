use Rattle.std.proofs.Common.{◌≡◌, false}
use Rattle.index_making.proofs.FillingLemmas.{Inserted}
use Rattle.index_making.proofs.filling.insert_each.Given as goal

abbrev pub invariant-loop-i : goal.invariant-loop-i
invariant-loop-i l = record {
  inserted : Inserted l.batch l.i l.initial.index.entries l.index.entries;
  kind : l.index.is_by_key ≡ false;
}
